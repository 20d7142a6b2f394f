use Rattle.std.proofs.Common.{All, take}
use Rattle.shared_admin.specs.Closing.{IsOwnRow}
use Rattle.shared_admin.proofs.strangers.strange_row.Given as goal

-- those before this one belong to some of the operators
abbrev pub invariant-loop-row : goal.invariant-loop-row
invariant-loop-row g l = All (IsOwnRow l.fn.operators) (take l.row-index l.fn.rows)
