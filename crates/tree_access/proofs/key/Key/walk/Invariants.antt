use Rattle.std.proofs.Common.{◌≡◌, length}
use Rattle.std.specs.FinMap as map
use Rattle.tree_access.specs.Keys.{selects}
use Rattle.tree_access.proofs.Those.{gathered}
use Rattle.tree_access.proofs.key.Key.walk.Given as goal

abbrev pub invariant-loop-placed : goal.invariant-loop-placed
invariant-loop-placed l = gathered (selects l.self) l.found l.left ≡ gathered (selects l.self) map.empty l.initial.left

abbrev pub decreases-loop-placed : goal.decreases-loop-placed
decreases-loop-placed l = length l.left
