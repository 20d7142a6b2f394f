use Rattle.std.proofs.Common.{◌≡◌, ◌++◌, map}
use Rattle.tree_access.specs.declared.key.Key.TheVariants.{Cell}
use Rattle.transaction.proofs.wanted.WantedLinks.push_cells.Given as goal

abbrev pub invariant-loop-slot : goal.invariant-loop-slot
invariant-loop-slot l = l.keys ++ map Cell l.slot-iterator ≡ l.fn.keys ++ map Cell l.initial.slot-iterator
