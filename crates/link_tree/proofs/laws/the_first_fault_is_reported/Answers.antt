use Rattle.link_tree.proofs.FirstFaults.{first_fault_is_reported}
use Rattle.link_tree.proofs.laws.the_first_fault_is_reported.Goals as goal

pub returns : goal.returns
returns c = first_fault_is_reported
