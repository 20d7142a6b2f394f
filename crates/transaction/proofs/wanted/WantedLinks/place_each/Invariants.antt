use Rattle.std.specs.FinMap as map
use Rattle.transaction.specs.Edits.{IsEdit}
use Rattle.transaction.proofs.Making.{AreComing}
use Rattle.transaction.proofs.wanted.WantedLinks.place_each.Given as goal

abbrev pub invariant-loop-slot : goal.invariant-loop-slot
invariant-loop-slot l = AreComing l.fn.tree l.tree l.slot-iterator (map.entries l.self) × IsEdit l.first l.tree l.changes
