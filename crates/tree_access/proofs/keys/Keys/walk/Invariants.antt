use Rattle.std.proofs.Common.{◌≡◌, length}
use Rattle.std.specs.FinMap as map
use Rattle.tree_access.specs.Keys.{any_selects}
use Rattle.tree_access.proofs.Those.{gathered}
use Rattle.tree_access.proofs.keys.Keys.walk.Given as goal

abbrev pub invariant-loop-placed : goal.invariant-loop-placed
invariant-loop-placed l = gathered (any_selects l.self) l.found l.left ≡ gathered (any_selects l.self) map.empty l.initial.left

abbrev pub decreases-loop-placed : goal.decreases-loop-placed
decreases-loop-placed l = length l.left
