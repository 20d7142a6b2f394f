use Rattle.std.proofs.Common.{drop}
use Rattle.transaction.specs.Runs.{asking_for}
use Rattle.transaction.proofs.Turns.{Goes}
use Rattle.install_commands.specs.Check.{checked}
use Rattle.install_commands.proofs.check.check_all.Given as goal

abbrev pub invariant-loop-name : goal.invariant-loop-name
invariant-loop-name l = Goes (asking_for (checked (drop l.name-index l.names))) (asking_for (checked l.fn.names)) l.fn.txn l.txn
