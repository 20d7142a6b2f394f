use Rattle.std.proofs.Common.{◌∙◌, ap, subst}
use Rattle.std.proofs.lemmas.List.{take_all}
use Rattle.disk.specs.Applied.{AllStand}
use Rattle.disk.specs.Steps.{failures_with}
use Rattle.disk.proofs.Ways.{looked, one_looked}
use Rattle.disk.proofs.applying.look_at_all.Goals as goal

pub returns-in-Err-clause-stops : goal.returns-in-Err-clause-stops
returns-in-Err-clause-stops g c =
    looked c.args.steps.now c.loop-step.step c.index-steps-step.result c.index-steps-step.is c.loop-step-test.true
    (g.D.Disk.holds c.args.disk.now) (g.D.Disk.holds c.loop-step.disk) c.in-Err.why c.loop-step.invariant.0 c.loop-step.invariant.3 c.in-Err.ensures.looks

pub returns-in-Err-clause-kept : goal.returns-in-Err-clause-kept
returns-in-Err-clause-kept g c = c.in-Err.ensures.kept ∙ c.loop-step.invariant.0

pub returns-in-Err-clause-done : goal.returns-in-Err-clause-done
returns-in-Err-clause-done g c = c.in-Err.ensures.done ∙ c.loop-step.invariant.1

pub returns-in-Err-clause-counted : goal.returns-in-Err-clause-counted
returns-in-Err-clause-counted g c = c.in-Err.ensures.counted ∙ ap (λ n. failures_with n c.in-Err.why) c.loop-step.invariant.2

pub loop-step-preserved : goal.loop-step-preserved
loop-step-preserved g c = (
  c.in_default.ensures.kept ∙ c.loop-step.invariant.0,
  c.in_default.ensures.done ∙ c.loop-step.invariant.1,
  c.in_default.ensures.counted ∙ c.loop-step.invariant.2,
  one_looked c.args.steps.now c.loop-step.step c.index-steps-step.result c.index-steps-step.is c.loop-step-test.true
      (g.D.Disk.holds c.args.disk.now) (g.D.Disk.holds c.loop-step.disk) c.loop-step.invariant.0 c.loop-step.invariant.3 c.in_default.ensures.looks,
)

pub returns-clause-looked : goal.returns-clause-looked
returns-clause-looked g c =
    subst (λ steps. AllStand (g.D.Disk.holds c.args.disk.now) steps) (take_all c.loop-step.step c.args.steps.now c.loop-step-test.false) c.loop-step.invariant.3
