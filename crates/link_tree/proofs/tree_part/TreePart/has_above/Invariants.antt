use Rattle.std.proofs.Common.{◌≡◌, ℕ, ◌+◌, List, length}
use Rattle.std.specs.List.{list_any}
use Rattle.std.specs.Option.{option_map_or}
use Rattle.std.specs.FinMap as map
use Rattle.unit_paths.specs.Shape.{is_beneath}
use Rattle.link_tree.proofs.Aboves.{found_above}
use Rattle.link_tree.proofs.tree_part.TreePart.has_above.Given as goal

-- the result depends on the directory still to be looked up, or one above it
abbrev pub invariant-above : goal.invariant-above
invariant-above l = found_above l.self l.above ≡ list_any (is_beneath l.fn.path) (map.keys l.self)

abbrev pub decreases-above : goal.decreases-above
decreases-above l = option_map_or (λ (dir : List ℕ). length dir + 1) l.above 0
