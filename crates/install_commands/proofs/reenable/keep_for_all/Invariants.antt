use Rattle.std.proofs.Common.{[], drop}
use Rattle.transaction.specs.Runs.{asking}
use Rattle.transaction.proofs.Turns.{Goes}
use Rattle.install_commands.specs.Reenable.{kept_behind}
use Rattle.install_commands.proofs.reenable.keep_for_all.Given as goal

abbrev pub invariant-loop-name : goal.invariant-loop-name
invariant-loop-name l = Goes (asking (kept_behind l.kept (drop l.name-index l.names))) (asking (kept_behind [] l.fn.names)) l.fn.txn l.txn
