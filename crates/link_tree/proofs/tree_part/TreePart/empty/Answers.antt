use Rattle.std.proofs.Common.{◌≡◌, rules}
use Rattle.std.specs.FinMap as map
use Rattle.std.specs.Arc.{arc_value}
use Rattle.link_tree.proofs.Shapes.{empty_tree}
use Rattle.link_tree.proofs.tree_part.TreePart.empty.Goals as goal

pub invariant_of-result : goal.invariant_of-result
invariant_of-result c =
    let same : arc_value c.in_ok-new.field-0 ≡ map.empty = search rules in
    rw same empty_tree
