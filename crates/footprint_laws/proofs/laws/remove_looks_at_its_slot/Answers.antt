use Rattle.footprint_laws.proofs.Hands.{remove_looks}
use Rattle.footprint_laws.proofs.laws.remove_looks_at_its_slot.Goals as goal

pub returns : goal.returns
returns c = remove_looks
