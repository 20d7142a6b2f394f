use Rattle.std.proofs.Common.{◌≡◌, Err, sym, refl, subst, ◌∙◌}
use Rattle.tree_steps.specs.Steps.{steps_between}
use Rattle.disk.specs.declared.error.DiskError.TheVariants.{OutOfMemory}
use Rattle.kept_history.specs.declared.running.RunError.TheVariants.{NotPromised}
use Rattle.kept_history.specs.Doing.{Runs, Leaves, WereSeen, failures_after_run}
use Rattle.kept_history.proofs.Fronts.{returned}
use Rattle.kept_history.proofs.Since.{never_half_since}
use Rattle.kept_history.proofs.running.run_between.Goals as goal

pub returns-in_err-steps-clause-whole : goal.returns-in_err-steps-clause-whole
returns-in_err-steps-clause-whole g c =
    never_half_since (g.D.Disk.done c.args.disk.now) (g.D.Disk.done c.args.disk.now) c.args.old.now c.args.new.now c.args.text.now (Err (NotPromised OutOfMemory)) refl

pub returns-in_err-steps-clause-runs : goal.returns-in_err-steps-clause-runs
returns-in_err-steps-clause-runs g c =
    subst (λ r. Runs (g.D.Disk.done c.args.disk.now) (g.D.Disk.done c.args.disk.now) r c.args.text.now (steps_between c.args.old.now c.args.new.now))
    (sym (returned c.from_residual.result (NotPromised OutOfMemory) c.from_residual.ensures)) refl

pub returns-in_err-steps-clause-leaves : goal.returns-in_err-steps-clause-leaves
returns-in_err-steps-clause-leaves g c =
    subst (λ r. Leaves (g.D.Disk.holds c.args.disk.now) (g.D.Disk.holds c.args.disk.now) r (steps_between c.args.old.now c.args.new.now))
    (sym (returned c.from_residual.result (NotPromised OutOfMemory) c.from_residual.ensures)) refl

pub returns-in_err-steps-clause-counted : goal.returns-in_err-steps-clause-counted
returns-in_err-steps-clause-counted g c =
    subst (λ r. g.D.Disk.failures c.args.disk.now ≡ failures_after_run (g.D.Disk.failures c.args.disk.now) r)
    (sym (returned c.from_residual.result (NotPromised OutOfMemory) c.from_residual.ensures)) refl

pub returns-clause-whole : goal.returns-clause-whole
returns-clause-whole g c =
    never_half_since _ _ c.args.old.now c.args.new.now c.args.text.now c.run.result
    (subst (λ steps. Runs (g.D.Disk.done c.args.disk.now) (g.D.Disk.done c.run.new.disk) c.run.result c.args.text.now steps) (c.deref.ensures.value ∙ c.in_ok-steps.ensures.steps) c.run.ensures.runs)

pub returns-clause-runs : goal.returns-clause-runs
returns-clause-runs g c =
    subst (λ steps. Runs (g.D.Disk.done c.args.disk.now) (g.D.Disk.done c.run.new.disk) c.run.result c.args.text.now steps) (c.deref.ensures.value ∙ c.in_ok-steps.ensures.steps) c.run.ensures.runs

pub returns-clause-leaves : goal.returns-clause-leaves
returns-clause-leaves g c =
    subst (λ steps. Leaves (g.D.Disk.holds c.args.disk.now) (g.D.Disk.holds c.run.new.disk) c.run.result steps) (c.deref.ensures.value ∙ c.in_ok-steps.ensures.steps) c.run.ensures.leaves

pub returns-in_err-steps-clause-looked : goal.returns-in_err-steps-clause-looked
returns-in_err-steps-clause-looked g c =
    subst (λ r. WereSeen (g.D.Disk.holds c.args.disk.now) r (steps_between c.args.old.now c.args.new.now))
    (sym (returned c.from_residual.result (NotPromised OutOfMemory) c.from_residual.ensures)) tt

pub returns-clause-looked : goal.returns-clause-looked
returns-clause-looked g c =
    subst (λ steps. WereSeen (g.D.Disk.holds c.args.disk.now) c.run.result steps) (c.deref.ensures.value ∙ c.in_ok-steps.ensures.steps) c.run.ensures.looked
