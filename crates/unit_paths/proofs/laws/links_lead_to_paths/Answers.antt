use Rattle.unit_paths.proofs.Slashes.{canonical_is_path}
use Rattle.unit_paths.proofs.laws.links_lead_to_paths.Goals as goal

pub returns : goal.returns
returns c = canonical_is_path
