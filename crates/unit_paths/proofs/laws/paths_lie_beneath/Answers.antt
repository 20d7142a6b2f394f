use Rattle.unit_paths.proofs.Lying.{beneath_goes_on, under_is_beneath_slot}
use Rattle.unit_paths.proofs.laws.paths_lie_beneath.Goals as goal

pub returns : goal.returns
returns c = (beneath_goes_on, under_is_beneath_slot)
