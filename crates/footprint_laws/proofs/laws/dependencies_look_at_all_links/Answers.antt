use Rattle.footprint_laws.proofs.Questions.{dependencies_look}
use Rattle.footprint_laws.proofs.laws.dependencies_look_at_all_links.Goals as goal

pub returns : goal.returns
returns c = dependencies_look
