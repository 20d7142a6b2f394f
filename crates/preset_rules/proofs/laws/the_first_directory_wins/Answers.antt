use Rattle.preset_rules.proofs.Winning.{first_directory_wins}
use Rattle.preset_rules.proofs.laws.the_first_directory_wins.Goals as goal

pub returns : goal.returns
returns c = first_directory_wins
