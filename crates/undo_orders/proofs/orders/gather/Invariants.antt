use Rattle.std.proofs.Common.{reverse}
use Rattle.undo_orders.proofs.Gathered.{AreSoFar}
use Rattle.undo_orders.proofs.orders.gather.Given as goal

abbrev pub invariant-loop-place : goal.invariant-loop-place
invariant-loop-place g l = AreSoFar g.O.Operation.asks l.rows l.n l.place (reverse l.numbers.items)
