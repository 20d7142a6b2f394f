use Rattle.install_section.proofs.WantedSets.{links_asked_for}
use Rattle.install_section.proofs.laws.links_are_asked_for.Goals as goal

pub returns : goal.returns
returns c = links_asked_for
