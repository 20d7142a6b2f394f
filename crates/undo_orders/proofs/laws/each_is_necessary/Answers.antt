use Rattle.undo_orders.proofs.Undos.{each_is_necessary}
use Rattle.undo_orders.proofs.laws.each_is_necessary.Goals as goal

pub returns : goal.returns
returns g c = each_is_necessary g.O.Operation.asks
