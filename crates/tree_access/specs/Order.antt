-- The order of keys, which is also their order in a reading.
use Rattle.std.specs.Prelude.{ℕ, List, [], ◌∷◌, map as list_map}
use Rattle.std.specs.Ordering.{on}
use Rattle.std.specs.FinSet as set
use Rattle.std.specs.FinMap as map
use Rattle.std.specs.declared.cmp.Ordering.{Ordering}
use Rattle.unit_paths.specs.declared.place.Scope.{Scope}
use Rattle.unit_paths.specs.declared.place.Scope.TheVariants.{Etc, Run}
use Rattle.link_tree.specs.Trees.{path_cmp}
use Rattle.tree_access.specs.declared.key.Key.{Key}
use Rattle.tree_access.specs.declared.key.Key.TheVariants.{Cell, Marked, Presets, Links}

abbrev pub rank_of_scope : Scope → ℕ
rank_of_scope Etc = 0
rank_of_scope Run = 1

abbrev pub rank : Key → ℕ
rank (Cell path) = 0
rank (Marked scope name) = 1
rank Presets = 2
rank Links = 3

-- Keys are distinguished and ordered by these texts: cells come first, in byte order of their
-- paths, then the links that belong to names, those of /etc first, in byte order of the names, then
-- the presets and then the links.
abbrev pub spelling : Key → List ℕ
spelling (Cell path) = 0 ∷ path
spelling (Marked scope name) = 1 ∷ rank_of_scope scope ∷ name
spelling Presets = 2 ∷ []
spelling Links = 3 ∷ []

abbrev pub key_cmp : Key → Key → Ordering
key_cmp = on spelling path_cmp

-- a set of keys
abbrev pub KeySet : Type 0
KeySet = set.FinSet key_cmp

-- a key as it is stored in the set's map
abbrev pub entry : Key → Key × Unit {0}
entry key = (key, tt)

-- the set of these keys
abbrev pub set_of : List Key → KeySet
set_of keys = map.from_entries (list_map entry keys)
