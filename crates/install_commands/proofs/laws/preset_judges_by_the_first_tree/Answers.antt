use Rattle.install_commands.proofs.Verdicts.{judges}
use Rattle.install_commands.proofs.laws.preset_judges_by_the_first_tree.Goals as goal

pub returns : goal.returns
returns c = judges
