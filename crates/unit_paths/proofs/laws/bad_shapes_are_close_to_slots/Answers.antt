use Rattle.unit_paths.proofs.NearSlots.{close_to_slot}
use Rattle.unit_paths.proofs.laws.bad_shapes_are_close_to_slots.Goals as goal

pub returns : goal.returns
returns c = close_to_slot
