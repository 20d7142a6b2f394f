use Rattle.kept_laws.proofs.Found.{roots_are_mended_in_one_way}
use Rattle.kept_laws.proofs.laws.roots_are_mended_in_one_way.Goals as goal

pub returns : goal.returns
returns c = roots_are_mended_in_one_way
