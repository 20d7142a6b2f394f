use Rattle.std.proofs.Common.{ap, ◌∙◌}
use Rattle.shared_admin.specs.declared.log.SessionLog.{SessionLog}
use Rattle.sessions.specs.Sessions.{Opened}
use Rattle.sessions.proofs.feeding.serve_jobs.Goals as goal

pub loop-job-init : goal.loop-job-init
loop-job-init g c = ap (λ (session : Opened g.row.O.Denot). session.operator) c.open-session.ensures

pub loop-job-preserved : goal.loop-job-preserved
loop-job-preserved g c = ap (λ (session : Opened g.row.O.Denot). session.operator) c.in_ok-serve_job.ensures.served.added ∙ c.loop-job.invariant

pub returns : goal.returns
returns g c = ap (λ (log : SessionLog g.row.O.Denot). log.operator) {y = record { operator = c.loop-job.session.operator; entries = c.loop-job.session.entries }} c.into_log.ensures ∙ c.loop-job.invariant
