use Rattle.states.proofs.Least.{dependencies_are_least}
use Rattle.states.proofs.laws.dependencies_are_least.Goals as goal

pub returns : goal.returns
returns c = dependencies_are_least
