use Rattle.shared_admin.proofs.Once.{one_outcome}
use Rattle.shared_admin.proofs.laws.events_have_one_outcome.Goals as goal

pub returns : goal.returns
returns g c = one_outcome g.O.Operation.asks g.O.Operation.meaning
