use Rattle.std.proofs.Common.{◌≡◌, ◌++◌, map}
use Rattle.tree_access.specs.declared.key.Key.TheVariants.{Cell}
use Rattle.tree_access.proofs.keys.Keys.push_cells.Given as goal

abbrev pub invariant-loop-path : goal.invariant-loop-path
invariant-loop-path l = l.more ++ map Cell l.path-iterator.rest.items ≡ map Cell l.fn.cells
