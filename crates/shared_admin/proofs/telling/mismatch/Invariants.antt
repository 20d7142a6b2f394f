use Rattle.std.proofs.Common.{All, take}
use Rattle.shared_admin.specs.Closing.{IsTold}
use Rattle.shared_admin.proofs.telling.mismatch.Given as goal

-- the logs of those before this one match their rows
abbrev pub invariant-loop-operator : goal.invariant-loop-operator
invariant-loop-operator g l = All (IsTold l.fn.logs l.fn.rows) (take l.operator-index l.fn.operators)
