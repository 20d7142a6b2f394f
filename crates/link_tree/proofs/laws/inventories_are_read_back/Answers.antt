use Rattle.link_tree.proofs.Again.{reads_again}
use Rattle.link_tree.proofs.laws.inventories_are_read_back.Goals as goal

pub returns : goal.returns
returns c = reads_again
