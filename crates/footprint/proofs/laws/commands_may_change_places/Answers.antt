use Rattle.footprint.proofs.Commute.{may_change_places}
use Rattle.footprint.proofs.laws.commands_may_change_places.Goals as goal

pub returns : goal.returns
returns g c = may_change_places g.met.A.Operation.laws g.met.B.Operation.laws
