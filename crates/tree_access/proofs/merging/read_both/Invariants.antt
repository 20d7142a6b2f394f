use Rattle.std.proofs.Common.{◌≡◌, ◌++◌, ◌+◌, length}
use Rattle.link_tree.specs.Trees.{after_changes}
use Rattle.tree_access.specs.Merging.{IsReading}
use Rattle.tree_access.specs.Readings.{keys_of, reading_of}
use Rattle.tree_access.proofs.merging.read_both.Given as goal

-- what has been read so far, and what is left of both
abbrev pub invariant-keys : goal.invariant-keys
invariant-keys l =
    (l.reading ++ reading_of (keys_of l.first ++ keys_of l.second) l.tree ≡ l.fn.reading ++ reading_of (keys_of l.fn.first ++ keys_of l.fn.second) l.tree)
    × IsReading l.tree l.first
    × IsReading (after_changes l.changes l.tree) l.second

abbrev pub decreases-keys : goal.decreases-keys
decreases-keys l = length l.first + length l.second
