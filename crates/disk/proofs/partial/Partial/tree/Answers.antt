use Rattle.disk.proofs.Parts.{part_shape, part_tree}
use Rattle.disk.proofs.partial.Partial.tree.Goals as goal

pub returns-clause-tree : goal.returns-clause-tree
returns-clause-tree c = part_tree c.args.self.now c.to_tree.result c.to_tree.ensures.tree

pub returns-clause-reason : goal.returns-clause-reason
returns-clause-reason c = part_shape c.args.self.now c.to_tree.result c.to_tree.ensures.shape
