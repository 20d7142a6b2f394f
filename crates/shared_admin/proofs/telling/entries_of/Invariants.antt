use Rattle.std.proofs.Common.{◌≡◌, drop}
use Rattle.shared_admin.specs.Closing.{entries_of}
use Rattle.shared_admin.proofs.telling.entries_of.Given as goal

-- those before this one belong to others
abbrev pub invariant-loop-log : goal.invariant-loop-log
invariant-loop-log g l = entries_of l.fn.logs l.fn.operator ≡ entries_of (drop l.log-index l.fn.logs) l.fn.operator
