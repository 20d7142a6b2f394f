use Rattle.kept_laws.proofs.Paths.{kept_paths_are_right}
use Rattle.kept_laws.proofs.laws.kept_paths_are_right.Goals as goal

pub returns : goal.returns
returns c = kept_paths_are_right
