use Rattle.std.proofs.Common.{◌≡◌, take}
use Rattle.sessions.specs.Runs.{operators_of}
use Rattle.sessions.proofs.run.operators_of.Given as goal

abbrev pub invariant-loop-work : goal.invariant-loop-work
invariant-loop-work g l = l.operators ≡ operators_of (take l.work-index l.works)
