-- What may be placed in a tree: which entries are wanted at which paths, and what tree that leaves.
use Rattle.std.specs.FinMap as map
use Rattle.std.specs.Prelude.{ℕ, List, [], ◌∷◌, ◌++◌, map as list_map, All, Contains, Option, Some, None, Result, Ok, Err}
use Rattle.link_tree.specs.declared.entry.Entry.{Entry}
use Rattle.link_tree.specs.Trees.{path_cmp, Entries, set_entry}
use Rattle.tree_access.specs.declared.key.Key.{Key}
use Rattle.tree_access.specs.declared.key.Key.TheVariants.{Cell}
use Rattle.tree_access.specs.declared.refusal.Refusal.{Refusal}
use Rattle.tree_access.specs.Rules.{Rule, link_at}

-- what is wanted at a path: an entry, or nothing
abbrev pub Placed : Type 0
Placed = List ℕ × Option Entry

-- what is wanted at which paths, in order, or why the command is refused
abbrev pub Ruling : Type 0
Ruling = Result (List Placed) Refusal

-- the tree in which these have been placed, in order
abbrev pub placed_in : List Placed → Entries → Entries
placed_in [] t = t
placed_in (p ∷ placed) t = placed_in placed (set_entry t p.0 p.1)

-- The cell of each path at which something is placed is among these keys.
abbrev pub IsLookedAt : List Key → Ruling → Type 0
IsLookedAt keys (Ok placed) = All (λ p. Contains keys (Cell p.0)) placed
IsLookedAt keys (Err refusal) = Unit {0}

-- one path is left as a rule says
abbrev pub ruled_at : List ℕ → Result (Option Entry) Refusal → Ruling
ruled_at path (Ok entry) = Ok ((path, entry) ∷ [])
ruled_at path (Err refusal) = Err refusal

-- these, and then what a later ruling places, unless that is a refusal
abbrev pub placed_before : List Placed → Ruling → Ruling
placed_before placed (Ok more) = Ok (placed ++ more)
placed_before placed (Err refusal) = Err refusal

-- The next ruling, in the tree that a ruling leaves; nothing follows a refusal.
abbrev pub concluded_after : Ruling → (Entries → Ruling) → Entries → Ruling
concluded_after (Ok placed) next t = placed_before placed (next (placed_in placed t))
concluded_after (Err refusal) next t = Err refusal

-- the keys at which the next step looks, in the tree that a ruling leaves
abbrev pub keys_after : Ruling → (Entries → List Key) → Entries → List Key
keys_after (Ok placed) next t = next (placed_in placed t)
keys_after (Err refusal) next t = []

-- Links that are wanted, by their paths: the path of the file to which each must lead, or none if
-- the path must be empty.
abbrev pub Wanted : Type 0
Wanted = map.FinMap path_cmp (Option (List ℕ))

-- the paths of these entries must be empty
unfoldable pub cleared : Entries → Wanted
cleared t = map.from_entries (list_map (λ e. (e.0, None)) (map.entries t))

-- what a wanted link leaves at its path: nothing if the path must be empty, whatever is there
abbrev pub wanted_at : Option (List ℕ) → Rule
wanted_at (Some file) path there = link_at file path there
wanted_at None path there = Ok None

-- what is left at these paths, at each given what is in the tree there, or the refusal at the first
-- of them that has one
abbrev pub all_wanted : List (List ℕ × Option (List ℕ)) → Entries → Ruling
all_wanted [] t = Ok []
all_wanted (link ∷ links) t = concluded_after (ruled_at link.0 (wanted_at link.1 link.0 (map.get t link.0))) (λ left. all_wanted links t) t
