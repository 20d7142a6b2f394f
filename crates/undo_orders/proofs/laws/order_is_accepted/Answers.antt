use Rattle.undo_orders.proofs.Undos.{order_is_accepted}
use Rattle.undo_orders.proofs.laws.order_is_accepted.Goals as goal

pub returns : goal.returns
returns g c = order_is_accepted g.O.Operation.asks
