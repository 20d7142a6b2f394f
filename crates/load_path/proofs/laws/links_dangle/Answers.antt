use Rattle.load_path.proofs.Dangles.{dangling_is_link}
use Rattle.load_path.proofs.laws.links_dangle.Goals as goal

pub returns : goal.returns
returns c = dangling_is_link
