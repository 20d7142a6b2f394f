use Rattle.install_section.proofs.WantedSets.{needs_least}
use Rattle.install_section.proofs.laws.instance_is_needed_by_the_least.Goals as goal

pub returns : goal.returns
returns c = needs_least
