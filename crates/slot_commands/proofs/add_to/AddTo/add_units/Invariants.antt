use Rattle.std.proofs.Common.{drop}
use Rattle.unit_paths.specs.Places.{scope_place}
use Rattle.transaction.proofs.Turns.{GoesOn}
use Rattle.slot_commands.specs.AddTo.{as_dependency, add_unit}
use Rattle.slot_commands.proofs.add_to.AddTo.add_units.Given as goal

abbrev pub invariant-loop-unit : goal.invariant-loop-unit
invariant-loop-unit l = GoesOn (add_unit (scope_place l.self.scope) (as_dependency l.self.dependency) l.by) (drop l.unit-index l.units) l.units l.fn.txn l.txn
