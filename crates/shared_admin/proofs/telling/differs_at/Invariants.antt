use Rattle.shared_admin.proofs.Told.{HasTold}
use Rattle.shared_admin.proofs.telling.differs_at.Given as goal

-- this number of entries match the operator's rows before this one
abbrev pub invariant-loop-row : goal.invariant-loop-row
invariant-loop-row g l = HasTold l.fn.operator l.fn.entries l.fn.rows l.told l.number l.row-index
