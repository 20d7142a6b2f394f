use Rattle.kept_runs.proofs.Alike.{FirstAlike}
use Rattle.kept_runs.proofs.rows.same_changes.Given as goal

-- the first i are equal
abbrev pub invariant-loop-i : goal.invariant-loop-i
invariant-loop-i l = FirstAlike (λ change. change) (λ change. change) l.ones l.others l.i
