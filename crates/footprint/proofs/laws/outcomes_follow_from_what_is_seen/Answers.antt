use Rattle.footprint.proofs.Outcomes.{comes_to_the_same}
use Rattle.footprint.proofs.laws.outcomes_follow_from_what_is_seen.Goals as goal

pub returns : goal.returns
returns g c = comes_to_the_same g.A.Operation.meaning
