use Rattle.footprint_laws.proofs.Whole.{others_never_look_at_all_links}
use Rattle.footprint_laws.proofs.laws.other_operations_never_look_at_all_links.Goals as goal

pub returns : goal.returns
returns c = others_never_look_at_all_links
