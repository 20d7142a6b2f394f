use Rattle.std.proofs.Common.{◌≡◌}
use Rattle.sessions.proofs.feeding.serve_jobs.Given as goal

-- the session is the operator's
abbrev pub invariant-loop-job : goal.invariant-loop-job
invariant-loop-job g l = l.session.operator ≡ l.fn.operator
