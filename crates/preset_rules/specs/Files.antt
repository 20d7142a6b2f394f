-- Which preset files count, and what they say: systemd.preset(5), "Description" and "Preset File
-- Format".
use Rattle.std.specs.Prelude.{ℕ, Bool, ◌&&◌, List, [], ◌∷◌, ◌++◌, map as list_map, Option, Some, None}
use Rattle.std.specs.List.{filter}
use Rattle.std.specs.Str.{bytes_eq}
use Rattle.std.specs.FinMap as map
use Rattle.unit_paths.specs.declared.place.Place.{Place}
use Rattle.unit_paths.specs.declared.place.Place.TheVariants.{Etc, Run, Vendor}
use Rattle.unit_paths.specs.Places.{preset_directory}
use Rattle.unit_paths.specs.Paths.{parent, name_at}
use Rattle.unit_paths.specs.Slots.{slot_of}
use Rattle.unit_paths.specs.Kinds.{is_preset}
use Rattle.link_tree.specs.Trees.{path_cmp, Entries}
use Rattle.link_tree.specs.declared.entry.Entry.{Entry}
use Rattle.link_tree.specs.declared.entry.Entry.TheVariants as entries
use Rattle.load_path.specs.Search.{Search, over, look, giving, ◌>>=◌}
use Rattle.load_path.specs.Follow.{chain_from, end_of}
use Rattle.load_path.specs.declared.following.End.{End}
use Rattle.load_path.specs.declared.following.End.TheVariants as ends
use Rattle.preset_rules.specs.declared.rule.Rule.{Rule}
use Rattle.preset_rules.specs.Lines.{rules_of}

-- the entries at the preset slots of a tree
unfoldable pub presets_of : Entries → Entries
presets_of t = map.retain_keys t (λ path. is_preset (slot_of path))

-- a preset slot in the directory of presets next to this directory of units
abbrev pub is_in : Place → (path : List ℕ) → Bool
is_in place path = bytes_eq (parent path) (preset_directory place) && is_preset (slot_of path)

-- the preset slots of a directory, by their file names
abbrev pub named_in : Place → List (List ℕ) → List (List ℕ × List ℕ)
named_in place paths = list_map (λ path. (name_at path, path)) (filter (is_in place) paths)

-- Among slots with the same file name, the one in /etc, or else in /run, or else in /usr/lib: the
-- first of these.
abbrev pub in_order : List (List ℕ) → List (List ℕ × List ℕ)
in_order paths = (named_in Etc paths ++ named_in Run paths) ++ named_in Vendor paths

abbrev pub Winners : Type 0
Winners = map.FinMap path_cmp (List ℕ)

unfoldable pub winners : Entries → Winners
winners presets = map.from_entries (in_order (map.keys presets))

-- the rules of the entry at the end of a link
abbrev pub rules_in : Option Entry → List Rule
rules_in None = []
rules_in (Some (entries.File contents)) = rules_of contents
rules_in (Some (entries.Link target)) = []

-- A link that doesn't end at a file, or ends at an empty one, counts as an empty file.
abbrev pub rules_behind : End → Search (List Rule)
rules_behind (ends.File file) = giving (look file) rules_in
rules_behind end = over []

-- the rules of the file at a slot, or of the file to which a link there leads
abbrev pub rules_at : (path : List ℕ) → Option Entry → Search (List Rule)
rules_at path None = over []
rules_at path (Some (entries.File contents)) = over (rules_of contents)
rules_at path (Some (entries.Link target)) = do
  end ← giving (chain_from path (entries.Link target)) end_of
  rules_behind end

-- the rules of one slot after another
abbrev pub rules_from : (presets : Entries) (paths : List (List ℕ)) → Search (List Rule)
rules_from presets [] = over []
rules_from presets (path ∷ paths) = do
  rules ← rules_at path (map.get presets path)
  giving (rules_from presets paths) (λ more. rules ++ more)

-- The rules of a tree: the files are read in byte order of their names. The cells are the paths to
-- which the winning links lead.
unfoldable pub policy_of : Entries → Search (List Rule)
policy_of t = rules_from (presets_of t) (map.values (winners (presets_of t)))
