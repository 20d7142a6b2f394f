use Rattle.std.proofs.Common.{◌≡◌, refl, subst, ◌∙◌}
use Rattle.std.specs.Option.{option_map}
use Rattle.tree_steps.specs.Steps.{steps_between}
use Rattle.disk.specs.Applied.{after_steps}
use Rattle.disk.specs.Events.{with_events}
use Rattle.disk.specs.declared.error.DiskError.TheVariants.{OutOfMemory}
use Rattle.kept_history.specs.Recovery.{finishing}
use Rattle.kept_history.specs.Finishing.{AreAllSorted}
use Rattle.kept_history.proofs.Finishing.{are_due, are_foreign, is_finished, stopped_short, nothing_finished}
use Rattle.kept_history.proofs.recovery.finish.Goals as goal

pub returns-in_err-steps-clause-finishes : goal.returns-in_err-steps-clause-finishes
returns-in_err-steps-clause-finishes g c =
    nothing_finished c.args.old.now c.args.new.now (g.D.Disk.holds c.args.disk.now) _ _ c.from_residual.result OutOfMemory c.from_residual.ensures refl

pub returns-in_err-sorted-clause-finishes : goal.returns-in_err-sorted-clause-finishes
returns-in_err-sorted-clause-finishes g c =
    nothing_finished c.args.old.now c.args.new.now (g.D.Disk.holds c.args.disk.now) _ _ c.from_residual-in_err-sorted.result c.in_err-sorted.field-0.0
    c.from_residual-in_err-sorted.ensures c.in_err-sorted.ensures.done

pub returns-in_err-finish_steps-clause-finishes : goal.returns-in_err-finish_steps-clause-finishes
returns-in_err-finish_steps-clause-finishes g c =
    let before = c.args.old.now in
    let after = c.args.new.now in
    let held = g.D.Disk.holds c.args.disk.now in
    let due = c.in_ok-sorted.sorted.due.items in
    let foreign = c.in_ok-sorted.sorted.foreign.items in
    let sorted = subst (λ cs. AreAllSorted held cs due foreign) (c.deref.ensures.value ∙ c.in_ok-steps.ensures.steps) c.in_ok-sorted.ensures.sorted in
    stopped_short before after (Unit {0}) held _ _ _ _ c.from_residual-in_err-finish_steps.result c.in_err-finish_steps.field-0.0 _ _ due foreign
    c.from_residual-in_err-finish_steps.ensures c.in_ok-sorted.ensures.kept c.in_ok-sorted.ensures.done
    (c.deref-2.ensures.value ∙ c.in_ok-steps.ensures.steps) c.deref-3.ensures.value
    c.in_err-finish_steps.ensures.done c.in_err-finish_steps.ensures.stops sorted

pub returns-clause-finishes : goal.returns-clause-finishes
returns-clause-finishes g c =
    let before = c.args.old.now in
    let after = c.args.new.now in
    let held = g.D.Disk.holds c.args.disk.now in
    let due = c.in_ok-sorted.sorted.due.items in
    let foreign = c.in_ok-sorted.sorted.foreign.items in
    let sorted = subst (λ cs. AreAllSorted held cs due foreign) (c.deref.ensures.value ∙ c.in_ok-steps.ensures.steps) c.in_ok-sorted.ensures.sorted in
    let steps : c.deref-2.result.now ≡ steps_between before after = c.deref-2.ensures.value ∙ c.in_ok-steps.ensures.steps in (
      due,
      are_due before after held due foreign sorted,
      c.in_ok-finish_steps.ensures.done ∙ (λ i. with_events (c.in_ok-sorted.ensures.done i) (finishing (steps i) (c.deref-3.ensures.value i))),
      tt,
      foreign,
      sorted,
    )

pub returns-clause-made : goal.returns-clause-made
returns-clause-made g c =
    let held = g.D.Disk.holds c.args.disk.now in
    let due = c.in_ok-sorted.sorted.due.items in
    let foreign = c.in_ok-sorted.sorted.foreign.items in
    is_finished c.args.old.now c.args.new.now held _ due foreign
    (subst (λ cs. AreAllSorted held cs due foreign) (c.deref.ensures.value ∙ c.in_ok-steps.ensures.steps) c.in_ok-sorted.ensures.sorted)
    (c.in_ok-finish_steps.ensures.made ∙ (λ i. option_map (after_steps (c.deref-3.ensures.value i)) (c.in_ok-sorted.ensures.kept i)))

pub returns-clause-foreign : goal.returns-clause-foreign
returns-clause-foreign g c =
    let held = g.D.Disk.holds c.args.disk.now in
    let due = c.in_ok-sorted.sorted.due.items in
    let foreign = c.in_ok-sorted.sorted.foreign.items in
    are_foreign c.args.old.now c.args.new.now held due foreign
    (subst (λ cs. AreAllSorted held cs due foreign) (c.deref.ensures.value ∙ c.in_ok-steps.ensures.steps) c.in_ok-sorted.ensures.sorted)
