-- How two trees differ.
use Rattle.std.specs.Prelude.{◌≡◌, ℕ, Bool, true, false, if◌then◌else◌, List, [], ◌∷◌, ◌++◌, Option, Some, None, refl}
use Rattle.std.specs.List.{flat_map}
use Rattle.std.specs.Coded.{Coded, code_by, coded×, coded_option}
use Rattle.std.specs.FinMap as map
use Rattle.link_tree.specs.declared.entry.Entry.{Entry}
use Rattle.link_tree.specs.declared.change.Change.{Change}
use Rattle.unit_paths.specs.Slots.{is_slot}
use Rattle.link_tree.specs.Trees.{path_cmp, Entries}
use Rattle.link_tree.specs.Values.{coded_path, coded_entry, same_entry}

-- whether both entries are the same
abbrev pub same : Option Entry → Option Entry → Bool
same None None = true
same (Some one) (Some other) = same_entry one other
same None (Some other) = false
same (Some one) None = false

-- the change from one entry to another at a path
abbrev pub change : List ℕ → Option Entry → Option Entry → Change
change path before after = record { path = path; before = before; after = after }

-- how two changes are compared
abbrev pub coded_change : Coded Change
coded_change = code_by (List ℕ × (Option Entry × Option Entry)) (coded× coded_path (coded× (coded_option coded_entry) (coded_option coded_entry))) (λ c. (c.path, (c.before, c.after))) (λ x. change x.0 x.1.0 x.1.1) (λ c. refl)

-- changes with the one at a path updated: removed if the entry is the same before and after
abbrev pub with_change : map.FinMap path_cmp Change → List ℕ → Option Entry → Option Entry → map.FinMap path_cmp Change
with_change m path before after = if same before after then map.remove m path else map.insert m path (change path before after)

-- a path with the change there, if the two trees differ there
abbrev pub difference : Entries → Entries → List ℕ → List (List ℕ × Change)
difference t u path = if same (map.get t path) (map.get u path) then [] else (path, change path (map.get t path) (map.get u path)) ∷ []

-- all changes from one tree to another, by their paths
unfoldable pub differences : Entries → Entries → map.FinMap path_cmp Change
differences t u = map.from_entries (flat_map (difference t u) (map.keys t ++ map.keys u))

-- All changes from one tree to another, in byte order of their paths.
unfoldable pub changes_between : Entries → Entries → List Change
changes_between t u = map.values (differences t u)

-- Trees that differ only at slots: at every other path, both have the same entry.
abbrev pub DifferAtSlots : Entries → Entries → Type 0
DifferAtSlots t u = (path : List ℕ) → is_slot path ≡ false → map.get t path ≡ map.get u path
