use Rattle.std.proofs.Common.{subst}
use Rattle.link_tree.specs.Shape.{IsTree}
use Rattle.link_tree.proofs.tree_part.TreePart.shape.Goals as goal

pub returns : goal.returns
returns c = subst IsTree c.self.view_is c.self.invariant
