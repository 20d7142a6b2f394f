use Rattle.kept_runs.specs.Texts.{shown}
use Rattle.kept_runs.proofs.Alike.{FirstAlike}
use Rattle.kept_runs.proofs.rows.same_rows.Given as goal

-- the first i show the same
abbrev pub invariant-loop-i : goal.invariant-loop-i
invariant-loop-i l = FirstAlike shown shown l.ones l.others l.i
