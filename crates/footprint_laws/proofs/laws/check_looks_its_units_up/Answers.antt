use Rattle.footprint_laws.proofs.Checks.{check_looks}
use Rattle.footprint_laws.proofs.laws.check_looks_its_units_up.Goals as goal

pub returns : goal.returns
returns c = check_looks
