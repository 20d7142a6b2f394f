use Rattle.load_path.proofs.Once.{cells_once}
use Rattle.load_path.proofs.laws.cells_are_listed_once.Goals as goal

pub returns : goal.returns
returns c = cells_once
