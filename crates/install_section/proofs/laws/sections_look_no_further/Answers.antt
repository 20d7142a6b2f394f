use Rattle.install_section.proofs.LooksAsFind.{looks_as_find}
use Rattle.install_section.proofs.laws.sections_look_no_further.Goals as goal

pub returns : goal.returns
returns c = looks_as_find
