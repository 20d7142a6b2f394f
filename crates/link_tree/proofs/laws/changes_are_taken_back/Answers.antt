use Rattle.link_tree.proofs.Changed.{inverse_from, inverse_undoes}
use Rattle.link_tree.proofs.laws.changes_are_taken_back.Goals as goal

pub returns : goal.returns
returns c = λ m changes from. (inverse_from m changes from, inverse_undoes m changes from)
