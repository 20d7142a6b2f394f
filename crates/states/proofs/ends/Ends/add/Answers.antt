use Rattle.std.proofs.Common.{◌≡◌, [], ◌∷◌, ◌++◌, Some, refl, subst, sym, ap, ◌∙◌}
use Rattle.std.specs.Prelude.{IsSome}
use Rattle.std.specs.Map.{lookup}
use Rattle.std.specs.Str.{bytes_eq}
use Rattle.std.specs.FinMap as map
use Rattle.states.specs.Reaching.{or_none, ends_at, with_step}
use Rattle.states.proofs.Ended.{found_at, one_name_set}
use Rattle.states.proofs.ends.Ends.add.Goals as goal

pub returns-in_ok-push-in-Some : goal.returns-in_ok-push-in-Some
unfolding with_step ends_at
returns-in_ok-push-in-Some c =
    let old = c.self.inside.by_name.entries in
    let from = c.args.step.from in
    let new = c.push.new.self in
    let there : lookup (bytes_eq from) old ≡ Some c.in-Some.ends.now = sym c.in-Some.ensures.value in
    let value : new ≡ or_none (map.get c.args.self.now from) ++ c.args.step.to ∷ [] =
    c.in_ok-push-in-Some.ensures.ok ∙ ap (λ found. or_none found ++ c.args.step.to ∷ []) (sym there ∙ sym (found_at old from) ∙ ap (λ m. map.get m from) c.self.view_is) in
    one_name_set old (c.get_mut.follows.lender new).entries from new ((c.get_mut.follows.holds new).3 (subst IsSome (sym there) refl)).0
    ∙ ap (λ m. map.insert m from new) c.self.view_is
    ∙ ap (map.insert c.args.self.now from) value

pub returns-in_ok-add_first-in-None : goal.returns-in_ok-add_first-in-None
unfolding with_step ends_at
returns-in_ok-add_first-in-None c =
    let old = c.self.inside.by_name.entries in
    let from = c.args.step.from in
    c.in_ok-add_first-in-None.ensures
    ∙ ap (λ m. map.insert m from (c.args.step.to ∷ [])) (ap (λ m. map.from_entries m.entries) c.get_mut.follows.holds-at-none ∙ c.self.view_is)
    ∙ ap (λ found. map.insert c.args.self.now from (or_none found ++ c.args.step.to ∷ [])) (c.in-None.ensures.value ∙ sym (found_at old from) ∙ ap (λ m. map.get m from) c.self.view_is)
