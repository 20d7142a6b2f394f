use Rattle.std.proofs.Common.{refl, subst, ◌∙◌}
use Rattle.std.proofs.lemmas.List.{take_all}
use Rattle.kept_history.specs.Finishing.{AreAllSorted}
use Rattle.kept_history.proofs.Finishing.{adds_nothing, adds_more}
use Rattle.kept_history.proofs.recovery.sort_steps.Goals as goal

pub loop-step-init : goal.loop-step-init
loop-step-init g c = (
  adds_nothing (g.D.Disk.holds c.args.disk.now) c.new.result.items c.new-2.result.items c.new.ensures.items c.new-2.ensures.items,
  refl,
  refl,
  refl,
)

pub loop-step-preserved : goal.loop-step-preserved
loop-step-preserved g c = (
  adds_more c.args.steps.now c.loop-step.step-index c.step-item.result c.step-item.is c.loop-step-test.true
      c.loop-step.sorted.due.items c.loop-step.sorted.foreign.items _ _ (g.D.Disk.holds c.args.disk.now) (g.D.Disk.holds c.loop-step.disk)
      c.loop-step.invariant.1 c.loop-step.invariant.0 c.in_ok-sort_step.ensures.sorted,
  c.in_ok-sort_step.ensures.kept ∙ c.loop-step.invariant.1,
  c.in_ok-sort_step.ensures.done ∙ c.loop-step.invariant.2,
  c.in_ok-sort_step.ensures.counted ∙ c.loop-step.invariant.3,
)

pub returns-clause-sorted : goal.returns-clause-sorted
returns-clause-sorted g c =
    subst (λ steps. AreAllSorted (g.D.Disk.holds c.args.disk.now) steps c.loop-step.sorted.due.items c.loop-step.sorted.foreign.items)
    (take_all c.loop-step.step-index c.args.steps.now c.loop-step-test.false) c.loop-step.invariant.0
