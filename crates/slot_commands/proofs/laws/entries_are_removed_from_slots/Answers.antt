use Rattle.slot_commands.proofs.Hands.{remove_empties}
use Rattle.slot_commands.proofs.laws.entries_are_removed_from_slots.Goals as goal

pub returns : goal.returns
returns c = remove_empties
