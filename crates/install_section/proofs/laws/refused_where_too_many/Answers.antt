use Rattle.install_section.proofs.Least.{refused_exactly}
use Rattle.install_section.proofs.laws.refused_where_too_many.Goals as goal

pub returns : goal.returns
returns c = refused_exactly
