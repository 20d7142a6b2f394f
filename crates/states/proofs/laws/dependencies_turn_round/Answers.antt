use Rattle.states.proofs.Least.{dependencies_turn_round}
use Rattle.states.proofs.laws.dependencies_turn_round.Goals as goal

pub returns : goal.returns
returns c = dependencies_turn_round
