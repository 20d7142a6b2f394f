use Rattle.std.proofs.Common.{ap, subst, ◌∙◌}
use Rattle.disk.specs.Steps.{failures_with}
use Rattle.disk.specs.Disks.{of_disk}
use Rattle.kept_history.specs.Doing.{Leaves, failures_after_run}
use Rattle.kept_history.proofs.Parts.{promise_synced, only_promised, not_begun, counted_alike}
use Rattle.kept_history.proofs.running.promise_and_make.Goals as goal

pub returns-in-Ok-sync_history-clause-runs : goal.returns-in-Ok-sync_history-clause-runs
returns-in-Ok-sync_history-clause-runs g c =
    c.make_promised.ensures.runs c.args.text.now (g.D.Disk.done c.args.disk.now)
    (promise_synced _ _ _ c.args.text.now c.in-Ok.ensures.done c.in-Ok-sync_history.ensures.done)

pub returns-in-Ok-sync_history-clause-leaves : goal.returns-in-Ok-sync_history-clause-leaves
returns-in-Ok-sync_history-clause-leaves g c =
    subst (λ h. Leaves h (g.D.Disk.holds c.make_promised.new.disk) c.make_promised.result c.args.steps.now)
    (c.in-Ok-sync_history.ensures.kept ∙ c.in-Ok.ensures.kept) c.make_promised.ensures.leaves

pub returns-in-Ok-sync_history-clause-counted : goal.returns-in-Ok-sync_history-clause-counted
returns-in-Ok-sync_history-clause-counted g c =
    c.make_promised.ensures.counted ∙ ap (λ n. failures_after_run n c.make_promised.result) (c.in-Ok-sync_history.ensures.counted ∙ c.in-Ok.ensures.counted)

pub returns-in-Err-sync_history-clause-runs : goal.returns-in-Err-sync_history-clause-runs
returns-in-Err-sync_history-clause-runs g c = only_promised _ _ _ c.args.text.now c.args.steps.now c.in-Ok.ensures.done c.in-Err-sync_history.ensures.done

pub returns-in-Err-sync_history-clause-leaves : goal.returns-in-Err-sync_history-clause-leaves
returns-in-Err-sync_history-clause-leaves g c = not_begun _ _ c.args.steps.now (c.in-Err-sync_history.ensures.kept ∙ c.in-Ok.ensures.kept)

pub returns-in-Err-sync_history-clause-counted : goal.returns-in-Err-sync_history-clause-counted
returns-in-Err-sync_history-clause-counted g c =
    c.in-Err-sync_history.ensures.counted ∙ counted_alike _ c.in-Err-sync_history.why ∙ ap (λ n. failures_with n (of_disk c.in-Err-sync_history.why)) c.in-Ok.ensures.counted

pub returns-in-Err-clause-counted : goal.returns-in-Err-clause-counted
returns-in-Err-clause-counted g c = c.in-Err.ensures.counted ∙ counted_alike _ c.in-Err.why
