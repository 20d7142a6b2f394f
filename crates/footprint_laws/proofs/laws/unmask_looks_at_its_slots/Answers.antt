use Rattle.footprint_laws.proofs.Unmasks.{unmask_looks}
use Rattle.footprint_laws.proofs.laws.unmask_looks_at_its_slots.Goals as goal

pub returns : goal.returns
returns c = unmask_looks
