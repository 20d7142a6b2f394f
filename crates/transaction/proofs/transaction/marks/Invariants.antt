use Rattle.std.proofs.Common.{◌≡◌, ◌++◌, drop, map as list_map}
use Rattle.tree_access.specs.declared.key.Key.TheVariants.{Marked}
use Rattle.transaction.proofs.transaction.marks.Given as goal

abbrev pub invariant-loop-name : goal.invariant-loop-name
invariant-loop-name l = l.marks ++ list_map (Marked l.scope) (drop l.name-index l.names) ≡ list_map (Marked l.fn.scope) l.fn.names
