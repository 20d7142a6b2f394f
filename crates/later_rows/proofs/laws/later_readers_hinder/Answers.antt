use Rattle.later_rows.proofs.Blocked.{later_readers_hinder}
use Rattle.later_rows.proofs.laws.later_readers_hinder.Goals as goal

pub returns : goal.returns
returns g c = later_readers_hinder g.O.Operation.asks
