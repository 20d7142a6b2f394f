use Rattle.slot_commands.proofs.Masked.{mask_fills}
use Rattle.slot_commands.proofs.laws.masks_fill_empty_slots.Goals as goal

pub returns : goal.returns
returns c = mask_fills
