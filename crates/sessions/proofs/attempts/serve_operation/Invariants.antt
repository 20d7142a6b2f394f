use Rattle.std.proofs.Common.{◌≡◌}
use Rattle.sessions.proofs.attempts.serve_operation.Given as goal

-- the operation is the one that was passed in
abbrev pub invariant-loop-made : goal.invariant-loop-made
invariant-loop-made g l = l.operation ≡ l.fn.operation
