-- For the proofs of this crate: no public contract cites it. How two trees are compared by a key.
use Rattle.std.specs.Prelude.{◌≡◌, ℕ, Bool, true, false, List, [], ◌∷◌, Option, Some, None}
use Rattle.std.specs.FinMap as map
use Rattle.link_tree.specs.declared.entry.Entry.{Entry}
use Rattle.link_tree.specs.Trees.{Entries, set_entry}
use Rattle.link_tree.specs.Belonging.{belonging}
use Rattle.tree_access.specs.declared.key.Key.{Key}
use Rattle.tree_access.specs.declared.key.Key.TheVariants.{Marked, Presets, Links}
use Rattle.tree_access.specs.Keys.{Chosen, chosen_at, selects, part}

-- All entries of a tree that a key looks at are also in another.
abbrev pub AllStand : Key → Entries → Entries → Type 0
AllStand key t u = (path : List ℕ) (entry : Entry) → map.get t path ≡ Some entry → selects key path entry ≡ true → map.get u path ≡ Some entry

-- A key looks at all entries of a tree.
abbrev pub AllSelected : Key → Entries → Type 0
AllSelected key t = (path : List ℕ) (entry : Entry) → map.get t path ≡ Some entry → selects key path entry ≡ true

-- The entry at a path, if a key looks at it, is also in another tree.
abbrev pub StandsIn : Key → Entries → Entries → List ℕ → Type 0
StandsIn key t u path = (entry : Entry) → map.get t path ≡ Some entry → selects key path entry ≡ true → map.get u path ≡ Some entry

-- whether a key looks at the links that belong to a name
abbrev pub is_marked : Key → Bool
is_marked (Marked scope name) = true
is_marked key = false

-- whether all entries are scanned for a key
abbrev pub walks : Key → Bool
walks Presets = true
walks Links = true
walks key = false

-- A key for which all entries are scanned sees the same in two trees.
abbrev pub SeesTheSame : Entries → Entries → Key → Type 0
SeesTheSame t u key = walks key ≡ true → part key t ≡ part key u

-- the paths of the links that belong to the name of a key
abbrev pub marked_by : Key → Entries → List (List ℕ)
marked_by (Marked scope name) t = belonging scope name t
marked_by key t = []

abbrev pub placed_in : Entries → List ℕ → Option Entry → Entries
placed_in found path None = found
placed_in found path (Some entry) = set_entry found path (Some entry)

-- the entry at a path in a tree is added to what was found, if it is chosen
abbrev pub taken : Chosen → Entries → List ℕ → Entries → Entries
taken chosen t path found = placed_in found path (chosen_at chosen path (map.get t path))

-- the same for each of the paths,
abbrev pub taken_all : Chosen → Entries → List (List ℕ) → Entries → Entries
taken_all chosen t [] found = found
taken_all chosen t (path ∷ paths) found = taken_all chosen t paths (taken chosen t path found)

-- and for the paths of each of the keys.
abbrev pub taken_for : Chosen → Entries → List Key → Entries → Entries
taken_for chosen t [] found = found
taken_for chosen t (key ∷ keys) found = taken_for chosen t keys (taken_all chosen t (marked_by key t) found)
