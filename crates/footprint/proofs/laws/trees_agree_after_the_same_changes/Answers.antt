use Rattle.tree_access.proofs.KeyLaws.{agree_after}
use Rattle.footprint.proofs.laws.trees_agree_after_the_same_changes.Goals as goal

pub returns : goal.returns
returns c = agree_after
