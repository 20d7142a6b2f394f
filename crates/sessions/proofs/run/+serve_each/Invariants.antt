use Rattle.std.proofs.Common.{length}
use Rattle.sessions.proofs.run.+serve_each.Given as goal

-- the number of remaining operators decreases
abbrev pub decreases-serve_each : goal.decreases-serve_each
decreases-serve_each g l = length l.works
