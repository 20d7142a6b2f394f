use Rattle.std.proofs.Common.{drop}
use Rattle.transaction.proofs.Turns.{GoesOn}
use Rattle.slot_commands.specs.Masks.{rule_of, ruled_unit}
use Rattle.slot_commands.proofs.mask.Rule.each.Given as goal

abbrev pub invariant-loop-unit : goal.invariant-loop-unit
invariant-loop-unit l = GoesOn (ruled_unit (rule_of l.self) l.scope) (drop l.unit-index l.units) l.units l.fn.txn l.txn
