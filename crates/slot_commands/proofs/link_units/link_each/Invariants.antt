use Rattle.std.proofs.Common.{drop}
use Rattle.transaction.proofs.Turns.{GoesOn}
use Rattle.slot_commands.specs.LinkUnits.{link_unit}
use Rattle.slot_commands.proofs.link_units.link_each.Given as goal

abbrev pub invariant-loop-path : goal.invariant-loop-path
invariant-loop-path l = GoesOn (link_unit l.place) (drop l.path-index l.paths) l.paths l.fn.txn l.txn
