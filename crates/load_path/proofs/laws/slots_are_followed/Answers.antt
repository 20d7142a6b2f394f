use Rattle.load_path.proofs.Follows.{unit_is_followed, masked_is_followed}
use Rattle.load_path.proofs.laws.slots_are_followed.Goals as goal

pub returns-clause-unit : goal.returns-clause-unit
returns-clause-unit c = unit_is_followed

pub returns-clause-masked : goal.returns-clause-masked
returns-clause-masked c = masked_is_followed
