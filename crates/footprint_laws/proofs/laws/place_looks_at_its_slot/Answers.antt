use Rattle.footprint_laws.proofs.Hands.{place_looks}
use Rattle.footprint_laws.proofs.laws.place_looks_at_its_slot.Goals as goal

pub returns : goal.returns
returns c = place_looks
