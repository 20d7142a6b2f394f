use Rattle.history.proofs.Remain.{remain}
use Rattle.history.proofs.laws.survivors_alone_remain.Goals as goal

pub returns : goal.returns
returns g c = remain g.met.O.Operation.laws
