use Rattle.std.proofs.Common.{◌≡◌, ◌++◌, drop}
use Rattle.slot_commands.proofs.paths.Paths.copy.Given as goal

abbrev pub invariant-loop-path : goal.invariant-loop-path
invariant-loop-path l = l.copy ++ drop l.path-index l.path-items ≡ l.path-items
