use Rattle.std.proofs.Common.{◌≡◌, IfOk, List, ℕ, ap, subst}
use Rattle.std.specs.FinMap as map
use Rattle.states.specs.Dependencies.{steps_of, reached_names, dependencies}
use Rattle.states.specs.Reaching.{ends_at}
use Rattle.states.proofs.Around.{steps_named, same_names}
use Rattle.states.proofs.Ordered.{same_sets}
use Rattle.states.proofs.reaching.dependencies.Goals as goal

pub returns : goal.returns
unfolding dependencies
returns c =
    let steps = steps_of c.args.reverse (map.entries c.args.links.now) in
    let unit = c.args.unit.now in
    let same = same_names c.args.reverse steps unit (ends_at c.in_ok-ends.ends) c.in_ok-found.found (steps_named c.args.reverse (map.entries c.args.links.now)) c.in_ok-ends.ensures c.in_ok-found.ensures in
    subst (λ (all : List (List ℕ)). IfOk c.in_order_without.result (λ names. names ≡ all)) (ap (λ names. map.keys (map.remove names unit)) (same_sets c.in_ok-found.found (reached_names c.args.reverse steps unit) same))
    c.in_order_without.ensures
