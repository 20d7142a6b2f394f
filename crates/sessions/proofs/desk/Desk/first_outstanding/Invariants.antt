use Rattle.std.proofs.Common.{◌≡◌, drop}
use Rattle.sessions.specs.Desks.{first_outstanding}
use Rattle.sessions.proofs.desk.Desk.first_outstanding.Given as goal

-- those before this one are answered
abbrev pub invariant-loop-job : goal.invariant-loop-job
invariant-loop-job l = first_outstanding (drop l.job-index l.job-items) ≡ first_outstanding l.job-items
