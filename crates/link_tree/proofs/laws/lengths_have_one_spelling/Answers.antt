use Rattle.link_tree.proofs.Lengths.{lengths_are_decimals}
use Rattle.link_tree.proofs.laws.lengths_have_one_spelling.Goals as goal

pub returns : goal.returns
returns c = lengths_are_decimals
