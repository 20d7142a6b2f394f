use Rattle.std.proofs.Common.{◌≡◌, drop}
use Rattle.kept_log.specs.Runs.{run_after}
use Rattle.kept_log.proofs.runs.run_after.Given as goal

-- the row among the runs that are left
abbrev pub invariant-loop-run : goal.invariant-loop-run
invariant-loop-run l = run_after (drop l.run-index l.runs) l.left ≡ run_after l.runs l.initial.left
