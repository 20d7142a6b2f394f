use Rattle.install_section.proofs.WantedSets.{clash_least}
use Rattle.install_section.proofs.laws.clash_is_the_least.Goals as goal

pub returns : goal.returns
returns c = clash_least
