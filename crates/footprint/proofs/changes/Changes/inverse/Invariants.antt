use Rattle.std.proofs.Common.{◌≡◌, ◌++◌, drop}
use Rattle.link_tree.specs.Trees.{inverse_of}
use Rattle.footprint.proofs.changes.Changes.inverse.Given as goal

abbrev pub invariant-loop-change : goal.invariant-loop-change
invariant-loop-change l = l.inverse ++ inverse_of (drop l.change-index l.change-items) ≡ inverse_of l.change-items
