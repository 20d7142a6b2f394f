use Rattle.footprint.proofs.Outcomes.{is_taken_back}
use Rattle.footprint.proofs.ThenLaws.{laws_in_turn}
use Rattle.two_operations.specs.Then.{first_of, second_of}
use Rattle.two_operations.proofs.InSteps.{then_leads, then_answers, then_in_steps}
use Rattle.two_operations.proofs.laws.then_is_one_after_the_other.Goals as goal

pub returns : goal.returns
returns g c = record {
  leads = then_leads g.met.A.Operation.laws g.met.B.Operation.laws;
  answers = then_answers g.met.A.Operation.laws g.met.B.Operation.laws;
  taken_back = is_taken_back (laws_in_turn first_of second_of g.met.A.Operation.laws g.met.B.Operation.laws);
  in_steps = then_in_steps g.met.A.Operation.laws g.met.B.Operation.laws g.met.C.Operation.laws;
}
