use Rattle.std.proofs.Common.{◌-◌, length}
use Rattle.std.specs.Prelude.{vec_len}
use Rattle.sessions.proofs.feeding.+feed_workers.Given as goal

-- the number of operators without a worker decreases
abbrev pub decreases-feed_workers : goal.decreases-feed_workers
decreases-feed_workers g l = length l.operators.now - vec_len l.feed.to
