use Rattle.std.proofs.Common.{◌≤◌, take, ap, subst, ◌∙◌}
use Rattle.std.specs.Option.{option_map}
use Rattle.std.proofs.lemmas.List.{length-take-le}
use Rattle.disk.specs.Steps.{failures_with}
use Rattle.disk.specs.Disks.{of_disk}
use Rattle.disk.specs.Applied.{after_steps}
use Rattle.disk.proofs.Ways.{take_front}
use Rattle.kept_history.proofs.Parts.{run_done, run_stopped, withdrawal_done, withdrawal_stopped, all_made, counted_alike}
use Rattle.kept_history.proofs.running.make_promised.Goals as goal

pub returns-in-Ok-end_run-clause-runs : goal.returns-in-Ok-end_run-clause-runs
returns-in-Ok-end_run-clause-runs g c = λ text before is.
    run_done _ _ _ _ text is c.args.steps.now c.in-Ok.ensures.done c.in-Ok-end_run.ensures.done

pub returns-in-Ok-end_run-clause-leaves : goal.returns-in-Ok-end_run-clause-leaves
returns-in-Ok-end_run-clause-leaves g c = (c.in-Ok.ensures.made.0, c.in-Ok-end_run.ensures.kept ∙ c.in-Ok.ensures.made.1)

pub returns-in-Ok-end_run-clause-counted : goal.returns-in-Ok-end_run-clause-counted
returns-in-Ok-end_run-clause-counted g c = c.in-Ok-end_run.ensures.counted ∙ c.in-Ok.ensures.counted

pub returns-in-Err-end_run-clause-runs : goal.returns-in-Err-end_run-clause-runs
returns-in-Err-end_run-clause-runs g c = λ text before is.
    run_stopped _ _ _ _ text is c.args.steps.now c.in-Ok.ensures.done c.in-Err-end_run.ensures.done

pub returns-in-Err-end_run-clause-leaves : goal.returns-in-Err-end_run-clause-leaves
returns-in-Err-end_run-clause-leaves g c = all_made _ _ _ c.args.steps.now c.in-Err-end_run.ensures.kept c.in-Ok.ensures.made

pub returns-in-Err-end_run-clause-counted : goal.returns-in-Err-end_run-clause-counted
returns-in-Err-end_run-clause-counted g c =
    c.in-Err-end_run.ensures.counted ∙ counted_alike _ c.in-Err-end_run.why ∙ ap (λ n. failures_with n (of_disk c.in-Err-end_run.why)) c.in-Ok.ensures.counted

pub returns-in-Ok-withdraw-clause-runs : goal.returns-in-Ok-withdraw-clause-runs
returns-in-Ok-withdraw-clause-runs g c = λ text before is.
    withdrawal_done _ _ _ _ text is (take c.in-Err.field-0.step c.args.steps.now) c.in-Err.ensures.some_done c.in-Ok-withdraw.ensures.done

pub returns-in-Ok-withdraw-clause-leaves : goal.returns-in-Ok-withdraw-clause-leaves
returns-in-Ok-withdraw-clause-leaves g c = (c.in-Ok-withdraw.ensures.back (g.D.Disk.holds c.args.disk.now) c.in-Err.ensures.some.1, c.in-Err.ensures.stops)

pub returns-in-Ok-withdraw-clause-counted : goal.returns-in-Ok-withdraw-clause-counted
returns-in-Ok-withdraw-clause-counted g c = c.in-Ok-withdraw.ensures.counted ∙ c.in-Err.ensures.counted

pub returns-in-Err-withdraw-clause-runs : goal.returns-in-Err-withdraw-clause-runs
returns-in-Err-withdraw-clause-runs g c = λ text before is.
    withdrawal_stopped _ _ _ _ text is (take c.in-Err.field-0.step c.args.steps.now) c.in-Err.ensures.some_done c.in-Err-withdraw.ensures.done

pub returns-in-Err-withdraw-clause-leaves : goal.returns-in-Err-withdraw-clause-leaves
returns-in-Err-withdraw-clause-leaves g c =
    let old = g.D.Disk.holds c.args.disk.now in
    let steps = c.args.steps.now in
    let step = c.in-Err.field-0.step in
    let left = c.in-Err-withdraw.ensures.left in
    let few : left.0 ≤ step = subst (λ n. left.0 ≤ n) (length-take-le step steps c.in-Err.ensures.some.0) left.1 in (
      left.0,
      few,
      left.2 old c.in-Err.ensures.some.1 ∙ ap (λ front. option_map (after_steps front) old) (take_front left.0 step steps few),
      c.in-Err.ensures.stops,
    )

pub returns-in-Err-withdraw-clause-counted : goal.returns-in-Err-withdraw-clause-counted
returns-in-Err-withdraw-clause-counted g c = c.in-Err-withdraw.ensures.counted ∙ ap (λ n. failures_with n c.in-Err-withdraw.back) c.in-Err.ensures.counted
