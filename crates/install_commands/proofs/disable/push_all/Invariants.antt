use Rattle.std.proofs.Common.{◌≡◌, ◌++◌, drop}
use Rattle.install_commands.proofs.disable.push_all.Given as goal

abbrev pub invariant-loop-name : goal.invariant-loop-name
invariant-loop-name l = l.names ++ drop l.name-index l.more ≡ l.fn.names ++ l.fn.more
