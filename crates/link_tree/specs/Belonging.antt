-- All links of a tree that belong to a name, and the lists in which a tree keeps them.
use Rattle.std.specs.Prelude.{◌≡◌, ℕ, Bool, false, not, cond, ◌&&◌, ◌||◌, List, map as list_map, Option, Some, None}
use Rattle.std.specs.FinMap as map
use Rattle.std.specs.List.{after_last, filter}
use Rattle.std.specs.Str.{bytes_eq}
use Rattle.unit_paths.specs.Paths.{is_slash, name_at}
use Rattle.unit_paths.specs.Canonical.{is_null_target}
use Rattle.unit_paths.specs.Slots.{slot_of}
use Rattle.unit_paths.specs.declared.place.Scope.{Scope}
use Rattle.name_lists.specs.Lists.{Shelves, listed}
use Rattle.unit_name.specs.Parts.{kind_of}
use Rattle.unit_name.specs.Name.{instance_of}
use Rattle.link_tree.specs.Links.{belongs, is_instance, is_of_scope}
use Rattle.link_tree.specs.Trees.{Entries}
use Rattle.link_tree.specs.declared.entry.Entry.{Entry}
use Rattle.link_tree.specs.declared.entry.Entry.TheVariants.{File, Link}

-- of these entries, the paths of the links of a scope that belong to a name
abbrev pub paths_of : Scope → List ℕ → List (List ℕ × Entry) → List (List ℕ)
paths_of scope name entries = list_map (λ e. e.0) (filter (λ e. belongs scope name e.0 e.1) entries)

-- the paths of the links of a scope that belong to a name, in byte order
abbrev pub belonging : Scope → List ℕ → Entries → List (List ℕ)
belonging scope name m = paths_of scope name (map.entries m)

-- whether the entry at a path belongs to a name
abbrev pub holds_at : Scope → (name path : List ℕ) → Option Entry → Bool
holds_at scope name path None = false
holds_at scope name path (Some entry) = belongs scope name path entry

-- whether the entry at a path is a link of the scope that does not lead to /dev/null: only such a
-- link belongs to a name
abbrev pub may_belong : Scope → List ℕ → Option Entry → Bool
may_belong scope path None = false
may_belong scope path (Some (File contents)) = false
may_belong scope path (Some (Link target)) = is_of_scope scope (slot_of path) && not (is_null_target path target)

-- the name at the end of a target, if it differs from the link's name and is not an instance's: the
-- link belongs to both
abbrev pub other_name : (path target : List ℕ) → Option (List ℕ)
other_name path target = cond (bytes_eq (after_last is_slash target) (name_at path) || is_instance (kind_of (instance_of (after_last is_slash target)))) None (Some (after_last is_slash target))

-- whether the entry at a path is a link whose target ends with the text, and the link's own name
-- differs from that of its target
abbrev pub is_end : (text path : List ℕ) → Option Entry → Bool
is_end text path None = false
is_end text path (Some (File contents)) = false
is_end text path (Some (Link target)) = not (bytes_eq (after_last is_slash target) (name_at path)) && bytes_eq text (after_last is_slash target)

-- For each name, the lists contain exactly the links of the scope that belong to it.
abbrev pub IsListed : Scope → Entries → Shelves → Type 0
IsListed scope m lists = (name : List ℕ) → listed lists name ≡ belonging scope name m
