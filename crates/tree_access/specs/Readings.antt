-- What an operation looked at, with what it saw.
use Rattle.std.specs.Prelude.{◌≡◌, List, ◌∷◌, ◌++◌, map as list_map, All}
use Rattle.std.specs.FinMap as map
use Rattle.link_tree.specs.Trees.{Entries}
use Rattle.tree_access.specs.declared.key.Key.{Key}
use Rattle.tree_access.specs.declared.reading.Observation.{Observation}
use Rattle.tree_access.specs.Keys.{seen}
use Rattle.tree_access.specs.Order.{set_of}

-- each of the keys once, in their order
unfoldable pub in_order : List Key → List Key
in_order keys = map.keys (set_of keys)

-- a key with what it sees of a tree
abbrev pub observed : Entries → Key → Observation
observed t key = record { key = key; seen = seen key t }

-- The reading of a tree by keys: each once, in their order, with what it sees.
abbrev pub reading_of : List Key → Entries → List Observation
reading_of keys t = list_map (observed t) (in_order keys)

-- the keys of a reading
abbrev pub keys_of : List Observation → List Key
keys_of reading = list_map (λ observation. observation.key) reading

-- In a tree, a key sees what it saw.
abbrev pub Holds : Entries → Observation → Type 0
Holds t observation = seen observation.key t ≡ observation.seen

-- A tree agrees with a reading if each key sees in it what it saw.
abbrev pub HoldsIn : Entries → List Observation → Type 0
HoldsIn t reading = All (Holds t) reading

-- The first key that sees in a tree something other than it saw.
abbrev pub IsFirstOther : Entries → List Observation → Key → Type 0
IsFirstOther t reading key =
    (before : List Observation) × (observation : Observation) × (later : List Observation)
    × (reading ≡ before ++ observation ∷ later) × HoldsIn t before × (¬ Holds t observation) × (key ≡ observation.key)
