use Rattle.std.proofs.Common.{take}
use Rattle.shared_admin.specs.Closing.{AreOwnLogs}
use Rattle.shared_admin.proofs.strangers.strange_log.Given as goal

-- those before this one belong to the operators, at most one to each
abbrev pub invariant-loop-place : goal.invariant-loop-place
invariant-loop-place g l = AreOwnLogs l.fn.operators (take l.place l.fn.logs)
