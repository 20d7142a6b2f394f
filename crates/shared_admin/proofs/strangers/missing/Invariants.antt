use Rattle.std.proofs.Common.{All, take}
use Rattle.shared_admin.specs.Closing.{HasLog}
use Rattle.shared_admin.proofs.strangers.missing.Given as goal

-- those before this one have logs
abbrev pub invariant-loop-operator : goal.invariant-loop-operator
invariant-loop-operator g l = All (HasLog l.fn.logs) (take l.operator-index l.fn.operators)
