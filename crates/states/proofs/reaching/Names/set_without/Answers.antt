use Rattle.std.proofs.Common.{◌≡◌, false, sym, ap, ◌∙◌, if◌then◌else◌}
use Rattle.std.specs.FinMap as map
use Rattle.std.specs.Str.{bytes_eq}
use Rattle.states.specs.Dependencies.{set_of}
use Rattle.states.proofs.Ordered.{without, one_joins, all_without, not_so}
use Rattle.states.proofs.reaching.Names.set_without.Goals as goal

pub loop-name-preserved-in_ok-insert : goal.loop-name-preserved-in_ok-insert
loop-name-preserved-in_ok-insert c =
    let left_out = c.args.left_out.now in
    let before = set_of c.loop-name.set.keys in
    let other : bytes_eq c.in-Some.name left_out ≡ false = not_so (bytes_eq c.in-Some.name left_out) (sym c.if-ne.ensures) in
    ap (λ names. without left_out names c.next.new.self) (one_joins c.loop-name.set c.insert.new.self c.in-Some.name c.in_ok-insert.ensures.updates.0)
    ∙ ap (λ b. without left_out (if b then before else map.insert before c.in-Some.name tt) c.next.new.self) (sym other)
    ∙ ap (without left_out before) (sym c.in-Some.ensures.steps)
    ∙ c.loop-name.invariant

pub returns : goal.returns
returns c =
    let left_out = c.args.left_out.now in
    let names : c.into_iter-name-iterator.result ≡ c.args.self = c.into_iter-name-iterator.ensures.into_iter_gives.0 ∙ c.self.view_is in
    ap (without left_out (set_of c.loop-name.set.keys)) (sym c.in-None.ensures.steps.0) ∙ c.loop-name.invariant
    ∙ ap (λ keys. without left_out (set_of keys) c.into_iter-name-iterator.result) c.new-set.ensures.empty ∙ ap (without left_out map.empty) names ∙ all_without left_out c.args.self
