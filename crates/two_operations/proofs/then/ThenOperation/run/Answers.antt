use Rattle.std.proofs.Common.{◌≡◌, true, All, sym, ap, ◌∙◌, subst}
use Rattle.std.proofs.lemmas.Result.{IfOk-weaker}
use Rattle.unit_paths.specs.Slots.{is_slot}
use Rattle.link_tree.specs.Trees.{after_changes}
use Rattle.footprint.specs.declared.outcome.Outcome.{Outcome}
use Rattle.footprint.specs.Operations.{outcome_of, is_refused}
use Rattle.tree_access.specs.Merging.{IsReading}
use Rattle.footprint.specs.Then.{outcome_of_both}
use Rattle.tree_access.proofs.Merged.{is_reading}
use Rattle.two_operations.proofs.InSteps.{then_outcome, then_at_slots}
use Rattle.two_operations.proofs.then.ThenOperation.run.Goals as goal

pub and_then-requires-clause-first_reading : goal.and_then-requires-clause-first_reading
and_then-requires-clause-first_reading g c =
    let t = c.args.tree.now in
    subst (λ (o : Outcome). IsReading t o.reading) (sym c.in_ok-first.ensures.outcome) (is_reading ((g.A.Operation.meaning c.args.self.now.first).keys t) t)

pub and_then-requires-clause-second_reading : goal.and_then-requires-clause-second_reading
and_then-requires-clause-second_reading g c =
    let u = after_changes c.in_ok-first.first.changes c.args.tree.now in
    subst (λ (o : Outcome). IsReading u o.reading) (sym c.in_ok-second.ensures.outcome) (is_reading ((g.B.Operation.meaning c.args.self.now.second).keys u) u)

pub returns-clause-outcome : goal.returns-clause-outcome
returns-clause-outcome g c =
    let t = c.args.tree.now in
    let first = c.in_ok-first.ensures.outcome in
    let second = c.in_ok-second.ensures.outcome ∙ ap (λ (o : Outcome). outcome_of g.B.Operation.meaning c.args.self.now.second (after_changes o.changes t)) first in
    let accepted = sym (ap (λ (o : Outcome). is_refused o.answer) first) ∙ sym c.is_refused.ensures ∙ c.if-is_refused.false in
    IfOk-weaker c.and_then.result _ _ (λ done same. same ∙ (λ i. outcome_of_both t (first i) (second i)) ∙ then_outcome g.met.A.Operation.laws g.met.B.Operation.laws c.args.self.now t accepted) c.and_then.ensures

pub returns-clause-slots : goal.returns-clause-slots
returns-clause-slots g c =
    let t = c.args.tree.now in
    let first = c.in_ok-first.ensures.outcome in
    let second = c.in_ok-second.ensures.outcome ∙ ap (λ (o : Outcome). outcome_of g.B.Operation.meaning c.args.self.now.second (after_changes o.changes t)) first in
    let AtSlots : Outcome → Type 0 = λ o. All (λ change. is_slot change.path ≡ true) o.changes in
    let slots = then_at_slots g.met.A.Operation.laws g.met.B.Operation.laws c.args.self.now t (subst AtSlots first c.in_ok-first.ensures.slots) (subst AtSlots second c.in_ok-second.ensures.slots) in
    IfOk-weaker c.and_then.result _ _ (λ done same. subst AtSlots (sym (same ∙ (λ i. outcome_of_both t (first i) (second i)))) slots) c.and_then.ensures
