use Rattle.later_rows.proofs.Blocked.{later_readers_block}
use Rattle.later_rows.proofs.laws.later_readers_block.Goals as goal

pub returns : goal.returns
returns g c = later_readers_block g.O.Operation.asks
