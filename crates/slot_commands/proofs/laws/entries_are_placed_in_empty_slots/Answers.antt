use Rattle.slot_commands.proofs.Hands.{place_fills}
use Rattle.slot_commands.proofs.laws.entries_are_placed_in_empty_slots.Goals as goal

pub returns : goal.returns
returns c = place_fills
