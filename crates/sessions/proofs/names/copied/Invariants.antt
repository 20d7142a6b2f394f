use Rattle.std.proofs.Common.{◌≡◌, take}
use Rattle.sessions.proofs.names.copied.Given as goal

abbrev pub invariant-loop-operator : goal.invariant-loop-operator
invariant-loop-operator l = l.copies ≡ take l.operator-index l.operators
