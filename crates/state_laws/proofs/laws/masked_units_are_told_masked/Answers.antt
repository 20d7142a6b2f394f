use Rattle.state_laws.proofs.Masked.{masked_after_mask}
use Rattle.state_laws.proofs.laws.masked_units_are_told_masked.Goals as goal

pub returns : goal.returns
returns c = masked_after_mask
