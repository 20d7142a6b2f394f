-- The net changes of one list of changes after another.
use Rattle.std.specs.Prelude.{ℕ, if◌then◌else◌, List, [], ◌∷◌, ◌++◌, map as list_map, Option, Some, None}
use Rattle.std.specs.List.{flat_map}
use Rattle.std.specs.Str.{bytes_eq}
use Rattle.std.specs.FinMap as map
use Rattle.link_tree.specs.declared.change.Change.{Change}
use Rattle.link_tree.specs.Trees.{path_cmp, Entries}
use Rattle.link_tree.specs.Differences.{same, change, with_change}

-- the change at a path, if there is one
abbrev pub change_of : List Change → List ℕ → Option Change
change_of [] path = None
change_of (change ∷ changes) path = if bytes_eq path change.path then Some change else change_of changes path

-- Two changes at one path, the second after the first: none if what was there before the first is
-- there again.
abbrev pub net_change : (first second : Option Change) → Option Change
net_change None second = second
net_change (Some first) None = Some first
net_change (Some first) (Some second) = if same first.before second.after then None else Some (change first.path first.before second.after)

-- a path with the change there, if there is one
abbrev pub row : List ℕ → Option Change → List (List ℕ × Change)
row path None = []
row path (Some change) = (path, change) ∷ []

abbrev pub paths_of : List Change → List (List ℕ)
paths_of changes = list_map (λ change. change.path) changes

-- the net change at each path, by path
unfoldable pub net_map : (first second : List Change) → map.FinMap path_cmp Change
net_map first second = map.from_entries (flat_map (λ path. row path (net_change (change_of first path) (change_of second path))) (paths_of first ++ paths_of second))

-- The net changes of two lists, the second after the first, in byte order of their paths.
unfoldable pub net : (first second : List Change) → List Change
net first second = map.values (net_map first second)

-- net changes with further changes recorded, each against what the first tree has at its path
abbrev pub noted : map.FinMap path_cmp Change → Entries → List Change → map.FinMap path_cmp Change
noted net first [] = net
noted net first (change ∷ changes) = noted (with_change net change.path (map.get first change.path) change.after) first changes
