use Rattle.std.proofs.Common.{[], drop}
use Rattle.transaction.specs.Runs.{asking}
use Rattle.transaction.proofs.Turns.{Goes}
use Rattle.install_commands.specs.Disable.{reals_behind}
use Rattle.install_commands.proofs.disable.reals.Given as goal

abbrev pub invariant-loop-unit : goal.invariant-loop-unit
invariant-loop-unit l = Goes (asking (reals_behind l.names (drop l.unit-index l.units))) (asking (reals_behind [] l.fn.units)) l.fn.txn l.txn
