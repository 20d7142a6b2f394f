use Rattle.std.proofs.Common.{take, All}
use Rattle.kept_rows.specs.Lines.{CanBeWritten}
use Rattle.kept_runs.proofs.others.check_all.Given as goal

-- lines can say the changes so far
abbrev pub invariant-loop-change : goal.invariant-loop-change
invariant-loop-change l = All CanBeWritten (take l.change-index l.changes)
