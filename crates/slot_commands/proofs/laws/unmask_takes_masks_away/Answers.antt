use Rattle.slot_commands.proofs.Masked.{unmask_empties}
use Rattle.slot_commands.proofs.laws.unmask_takes_masks_away.Goals as goal

pub returns : goal.returns
returns c = unmask_empties
