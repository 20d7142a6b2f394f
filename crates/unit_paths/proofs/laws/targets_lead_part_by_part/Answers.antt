use Rattle.unit_paths.proofs.Leading.{leads_by_parts}
use Rattle.unit_paths.proofs.laws.targets_lead_part_by_part.Goals as goal

pub returns : goal.returns
returns c = leads_by_parts
