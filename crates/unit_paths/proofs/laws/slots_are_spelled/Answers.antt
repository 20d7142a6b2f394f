use Rattle.unit_paths.proofs.Spelled.{slots_are_spelled}
use Rattle.unit_paths.proofs.laws.slots_are_spelled.Goals as goal

pub returns : goal.returns
returns c = slots_are_spelled
