use Rattle.install_section.proofs.Least.{closure_least}
use Rattle.install_section.proofs.laws.closure_is_least.Goals as goal

pub returns : goal.returns
returns c = closure_least
