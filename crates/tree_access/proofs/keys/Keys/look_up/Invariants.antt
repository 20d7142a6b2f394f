use Rattle.std.proofs.Common.{◌≡◌, drop}
use Rattle.std.specs.FinMap as map
use Rattle.tree_access.specs.Keys.{any_selects}
use Rattle.tree_access.specs.Seeing.{taken_for}
use Rattle.tree_access.proofs.keys.Keys.look_up.Given as goal

abbrev pub invariant-loop-key : goal.invariant-loop-key
invariant-loop-key l = taken_for (any_selects l.self) l.tree (drop l.key-index l.key-items) l.found ≡ taken_for (any_selects l.self) l.tree l.key-items map.empty
