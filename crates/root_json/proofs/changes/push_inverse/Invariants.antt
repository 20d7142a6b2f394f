use Rattle.std.proofs.Common.{◌≡◌, ◌++◌, map, take}
use Rattle.link_tree.specs.Trees.{inverse_of}
use Rattle.serde_json.specs.View.{view}
use Rattle.root_json.specs.Changes.{change_data}
use Rattle.root_json.proofs.changes.push_inverse.Given as goal

abbrev pub invariant-loop-change : goal.invariant-loop-change
invariant-loop-change l = map view l.values.items ≡ map view l.initial.values.items ++ map change_data (inverse_of (take l.change-index l.changes))
