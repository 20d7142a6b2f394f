-- What a key sees of a tree, and which changes touch it.
use Rattle.std.specs.Prelude.{◌≡◌, ℕ, Bool, true, false, ◌||◌, if◌then◌else◌, List, All, Option, Some, None}
use Rattle.std.specs.List.{list_any}
use Rattle.std.specs.Str.{bytes_eq}
use Rattle.std.specs.FinMap as map
use Rattle.link_tree.specs.declared.entry.Entry.{Entry}
use Rattle.link_tree.specs.declared.change.Change.{Change}
use Rattle.unit_paths.specs.declared.place.Scope.{Scope}
use Rattle.unit_paths.specs.Slots.{slot_of, is_slot}
use Rattle.unit_paths.specs.Kinds.{is_preset, is_dependency}
use Rattle.link_tree.specs.Trees.{Entries}
use Rattle.tree_access.specs.declared.key.Key.{Key}
use Rattle.tree_access.specs.declared.key.Key.TheVariants.{Cell, Marked, Presets, Links}
use Rattle.tree_access.specs.declared.reading.Seen.{Seen}
use Rattle.tree_access.specs.declared.reading.Seen.TheVariants as seens
use Rattle.link_tree.specs.Links.{belongs}

abbrev pub is_cell : Key → Bool
is_cell (Cell path) = true
is_cell key = false

-- whether a key looks at an entry at a path
abbrev pub selects : Key → (path : List ℕ) → Entry → Bool
selects (Cell cell) path entry = bytes_eq path cell
selects (Marked scope name) path entry = belongs scope name path entry
selects Presets path entry = is_preset (slot_of path)
selects Links path entry = is_dependency (slot_of path)

-- which entries are chosen, given their paths
abbrev pub Chosen : Type 0
Chosen = (path : List ℕ) → Entry → Bool

abbrev pub is_chosen : Chosen → (path : List ℕ) → Option Entry → Bool
is_chosen chosen path None = false
is_chosen chosen path (Some entry) = chosen path entry

abbrev pub chosen_at : Chosen → (path : List ℕ) → Option Entry → Option Entry
chosen_at chosen path there = if is_chosen chosen path there then there else None

-- whether a key looks at what is there, if anything is
abbrev pub shows : Key → (path : List ℕ) → Option Entry → Bool
shows key path there = is_chosen (selects key) path there

-- what it sees there
abbrev pub shown : Key → (path : List ℕ) → Option Entry → Option Entry
shown key path there = chosen_at (selects key) path there

-- the chosen entries of a tree
unfoldable pub those : Chosen → Entries → Entries
those chosen t = map.retain_keys t (λ path. is_chosen chosen path (map.get t path))

-- the entries of a tree that a key looks at
unfoldable pub part : Key → Entries → Entries
part key t = map.retain_keys t (λ path. shows key path (map.get t path))

-- whether one of several keys looks at an entry
abbrev pub any_selects : List Key → Chosen
any_selects keys path entry = list_any (λ key. selects key path entry) keys

-- There are entries only at slots.
abbrev pub StandAtSlots : Entries → Type 0
StandAtSlots t = (path : List ℕ) (entry : Entry) → map.get t path ≡ Some entry → is_slot path ≡ true

-- What a key sees of a tree: the entry at the cell, or the set of entries that it looks at.
abbrev pub seen : Key → Entries → Seen
seen (Cell path) t = seens.Entry (map.get t path)
seen (Marked scope name) t = seens.Entries (part (Marked scope name) t)
seen Presets t = seens.Entries (part Presets t)
seen Links t = seens.Entries (part Links t)

-- Two trees agree on a key if it sees the same in both,
abbrev pub Agree : Key → Entries → Entries → Type 0
Agree key t u = seen key t ≡ seen key u

-- and on keys if they agree on each.
abbrev pub AgreeOn : List Key → Entries → Entries → Type 0
AgreeOn keys t u = All (λ key. Agree key t u) keys

-- whether an entry before or after a change belongs to a name
abbrev pub is_marked : Scope → (name path : List ℕ) → Option Entry → Bool
is_marked scope name path None = false
is_marked scope name path (Some entry) = belongs scope name path entry

-- A change touches the cell of its path, the names in a scope to which its entry before or after
-- belongs, the presets if its path is one of their slots, and the links if it is the slot of a
-- dependency.
abbrev pub touches : Change → Key → Bool
touches change (Cell path) = bytes_eq change.path path
touches change (Marked scope name) = is_marked scope name change.path change.before || is_marked scope name change.path change.after
touches change Presets = is_preset (slot_of change.path)
touches change Links = is_dependency (slot_of change.path)

-- no change of these touches one of the keys
abbrev pub Untouched : List Change → List Key → Type 0
Untouched changes keys = All (λ key. All (λ change. touches change key ≡ false) changes) keys
