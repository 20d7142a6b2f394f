use Rattle.std.proofs.Common.{[], drop}
use Rattle.transaction.specs.Runs.{asking_for}
use Rattle.transaction.proofs.Turns.{Goes}
use Rattle.install_commands.specs.Preset.{counting_behind}
use Rattle.install_commands.proofs.preset.select_counting.Given as goal

abbrev pub invariant-loop-unit : goal.invariant-loop-unit
invariant-loop-unit l = Goes (asking_for (counting_behind l.names (drop l.unit-index l.units))) (asking_for (counting_behind [] l.fn.units)) l.fn.txn l.txn
