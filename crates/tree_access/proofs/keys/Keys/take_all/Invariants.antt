use Rattle.std.proofs.Common.{◌≡◌, drop}
use Rattle.tree_access.specs.Keys.{any_selects}
use Rattle.tree_access.specs.Seeing.{taken_all}
use Rattle.tree_access.proofs.keys.Keys.take_all.Given as goal

abbrev pub invariant-loop-path : goal.invariant-loop-path
invariant-loop-path l = taken_all (any_selects l.self) l.tree (drop l.path-index l.paths) l.found ≡ taken_all (any_selects l.self) l.tree l.paths l.fn.found
