use Rattle.footprint.proofs.Outcomes.{is_taken_back}
use Rattle.footprint.proofs.laws.operations_are_taken_back.Goals as goal

pub returns : goal.returns
returns g c = is_taken_back g.met.A.Operation.laws
