use Rattle.kept_runs.proofs.Alike.{FirstAlike}
use Rattle.root_histories.specs.Promises.{seen_of}
use Rattle.root_histories.proofs.promise.are_same_runs.Given as goal

-- the first i are the same runs
abbrev pub invariant-loop-i : goal.invariant-loop-i
invariant-loop-i l = FirstAlike seen_of seen_of l.runs l.others l.i
