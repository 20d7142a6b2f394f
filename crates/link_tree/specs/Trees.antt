-- A tree is a finite map from paths, in the order of their bytes, to entries.
use Rattle.std.specs.Prelude.{◌≡◌, false, ℕ, List, [], ◌∷◌, ◌++◌, length, map as list_map, Option, Some, None, codes}
use Rattle.std.specs.Fmt.{decimal}
use Rattle.std.specs.List.{flat_map}
use Rattle.std.specs.Ordering.{nat_cmp}
use Rattle.std.specs.Cmp.Lexicographic.{slice_cmp}
use Rattle.std.specs.Str.{bytes_eq}
use Rattle.std.specs.FinMap as map
use Rattle.std.specs.declared.cmp.Ordering.{Ordering}
use Rattle.link_tree.specs.declared.entry.Entry.{Entry}
use Rattle.link_tree.specs.declared.entry.Entry.TheVariants.{File, Link}
use Rattle.link_tree.specs.declared.change.Change.{Change}

abbrev pub path_cmp : List ℕ → List ℕ → Ordering
path_cmp = slice_cmp nat_cmp

abbrev pub Entries : Type 0
Entries = map.FinMap path_cmp Entry

-- an entry at a path, or none
abbrev pub set_entry : Entries → List ℕ → Option Entry → Entries
set_entry m path (Some entry) = map.insert m path entry
set_entry m path None = map.remove m path

-- the tree after a change: the entry at its path is replaced
abbrev pub after_change : Change → Entries → Entries
after_change change m = set_entry m change.path change.after

-- the tree after all of them, in order
abbrev pub after_changes : List Change → Entries → Entries
after_changes [] m = m
after_changes (change ∷ changes) m = after_changes changes (after_change change m)

-- an entry's lines
abbrev pub entry_line : List ℕ × Entry → List ℕ
entry_line (path, File contents) = codes "F\t" ++ decimal (length contents) ++ (codes "\t" ++ path ++ codes "\n") ++ contents ++ codes "\n"
entry_line (path, Link target) = codes "L\t" ++ path ++ (codes "\t" ++ target) ++ codes "\n"

-- the unique text of a tree
abbrev pub inventory_text : Entries → List ℕ
inventory_text m = codes "unitadm-inventory 1\n" ++ flat_map entry_line (map.entries m) ++ codes "end\n"

abbrev pub KeepsPath : List ℕ → List Change → Type 0
KeepsPath path [] = Unit {0}
KeepsPath path (change ∷ changes) = (bytes_eq path change.path ≡ false) × KeepsPath path changes

-- Each change starts from the present entry at its path, and no path changes twice.
abbrev pub AreFrom : Entries → List Change → Type 0
AreFrom m [] = Unit {0}
AreFrom m (change ∷ changes) = (map.get m change.path ≡ change.before) × KeepsPath change.path changes × AreFrom m changes

-- the change that undoes this one
abbrev pub taken_back : Change → Change
taken_back change = record { path = change.path; before = change.after; after = change.before }

-- the changes that undo these, in the same order
abbrev pub inverse_of : List Change → List Change
inverse_of changes = list_map taken_back changes
