use Rattle.std.proofs.Common.{ap, subst, ◌∙◌}
use Rattle.kept_history.specs.Doing.{Runs, Leaves, failures_after_run}
use Rattle.kept_history.proofs.Seen.{were_seen}
use Rattle.kept_history.proofs.running.run.Goals as goal

pub returns-in-Ok-clause-runs : goal.returns-in-Ok-clause-runs
returns-in-Ok-clause-runs g c =
    subst (λ o. Runs o (g.D.Disk.done c.promise_and_make.new.disk) c.promise_and_make.result c.args.text.now c.args.steps.now) c.in-Ok.ensures.done c.promise_and_make.ensures.runs

pub returns-in-Ok-clause-leaves : goal.returns-in-Ok-clause-leaves
returns-in-Ok-clause-leaves g c =
    subst (λ h. Leaves h (g.D.Disk.holds c.promise_and_make.new.disk) c.promise_and_make.result c.args.steps.now) c.in-Ok.ensures.kept c.promise_and_make.ensures.leaves

pub returns-in-Ok-clause-counted : goal.returns-in-Ok-clause-counted
returns-in-Ok-clause-counted g c = c.promise_and_make.ensures.counted ∙ ap (λ n. failures_after_run n c.promise_and_make.result) c.in-Ok.ensures.counted

pub returns-in-Err-clause-leaves : goal.returns-in-Err-clause-leaves
returns-in-Err-clause-leaves g c = (c.in-Err.ensures.kept, c.in-Err.ensures.stops)

pub returns-in-Ok-clause-looked : goal.returns-in-Ok-clause-looked
returns-in-Ok-clause-looked g c = were_seen (g.D.Disk.holds c.args.disk.now) c.promise_and_make.result c.args.steps.now c.in-Ok.ensures.looked
