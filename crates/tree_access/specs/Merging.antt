-- How two readings are merged into one.
use Rattle.std.specs.Prelude.{List, [], ◌∷◌}
use Rattle.std.specs.List.Sorted.{IsStrictlySortedBy}
use Rattle.std.specs.declared.cmp.Ordering.{Ordering}
use Rattle.std.specs.declared.cmp.Ordering.TheVariants.{Less, Greater}
use Rattle.link_tree.specs.Trees.{Entries}
use Rattle.tree_access.specs.declared.reading.Observation.{Observation}
use Rattle.tree_access.specs.Order.{key_cmp}
use Rattle.tree_access.specs.Readings.{keys_of, HoldsIn}

-- A reading of a tree, or the rest of one: each key once, in the order of keys, with what it sees.
pub record IsReading (t : Entries) (reading : List Observation) : Type 0 where
  pub holds : HoldsIn t reading
  pub in_order : IsStrictlySortedBy key_cmp (keys_of reading)

-- Which of two readings has the next key: `Equal` if both have it, `Greater` if the second has it
-- or none is left.
abbrev pub turn : (first second : List Observation) → Ordering
turn [] second = Greater
turn (one ∷ first) [] = Less
turn (one ∷ first) (other ∷ second) = key_cmp one.key other.key
