use Rattle.history.proofs.Agreed.{agrees_where_same}
use Rattle.history.proofs.laws.agreed_plans_are_new.Goals as goal

pub returns : goal.returns
returns g c = agrees_where_same g.O.Operation.meaning
