-- Steps: the changes from one tree to another, in an order in which they can be made one at a time.
use Rattle.std.specs.Prelude.{◌≡◌, ℕ, Bool, true, false, not, ◌&&◌, is_some, List, [], ◌∷◌, ◌++◌, Option, Some, None, ◌⊎◌}
use Rattle.std.specs.List.{filter}
use Rattle.std.specs.FinMap as map
use Rattle.link_tree.specs.declared.entry.Entry.{Entry}
use Rattle.link_tree.specs.declared.entry.Entry.TheVariants.{File, Link}
use Rattle.link_tree.specs.declared.change.Change.{Change}
use Rattle.link_tree.specs.Trees.{Entries, after_change}
use Rattle.link_tree.specs.Differences.{changes_between}
use Rattle.unit_paths.specs.Slots.{is_slot}
use Rattle.tree_steps.specs.declared.turn.Turn.{Turn}
use Rattle.tree_steps.specs.declared.turn.Turn.TheVariants.{FilesPut, LinksPut, LinksTaken, FilesTaken}

abbrev pub is_file : Option Entry → Bool
is_file None = false
is_file (Some (File contents)) = true
is_file (Some (Link target)) = false

abbrev pub is_link : Option Entry → Bool
is_link None = false
is_link (Some (File contents)) = false
is_link (Some (Link target)) = true

-- whether a change is made in a turn
abbrev pub comes_in : Turn → Change → Bool
comes_in FilesPut change = is_file change.after
comes_in LinksPut change = is_link change.after
comes_in LinksTaken change = not (is_some change.after) && is_link change.before
comes_in FilesTaken change = not (is_some change.after) && not (is_link change.before)

abbrev pub those : Turn → List Change → List Change
those turn changes = filter (comes_in turn) changes

-- Files are put before the links that may lead to them, and removed after the links that led to
-- them. If one entry is replaced by another, the turn is that of the new entry.
abbrev pub in_turn : List Change → List Change
in_turn changes = those FilesPut changes ++ those LinksPut changes ++ those LinksTaken changes ++ those FilesTaken changes

-- the steps from one tree to another: turn after turn, each in byte order of the paths
abbrev pub steps_between : Entries → Entries → List Change
steps_between old new = in_turn (changes_between old new)

-- those of the changes that are at slots
abbrev pub at_slots : List Change → List Change
at_slots changes = filter (λ change. is_slot change.path) changes

-- how two trees differ at slots, in byte order of the paths
abbrev pub slot_changes_between : Entries → Entries → List Change
slot_changes_between old new = at_slots (changes_between old new)

-- Each path has what the old tree or what the new tree has there.
abbrev pub IsOnTheWay : (old new now : Entries) → Type 0
IsOnTheWay old new now = (path : List ℕ) → (map.get now path ≡ map.get old path) ⊎ (map.get now path ≡ map.get new path)

-- The rest of the steps lead from the current tree to the new one: when a step's turn comes, its
-- old entry is at its path, and each tree is on the way from the old one to the new one.
abbrev pub LeadsOn : (old new now : Entries) → List Change → Type 0
LeadsOn old new now [] = now ≡ new
LeadsOn old new now (step ∷ steps) = IsOnTheWay old new now × (map.get now step.path ≡ step.before) × LeadsOn old new (after_change step now) steps

abbrev pub LeadsInTurn : (old new : Entries) → List Change → Type 0
LeadsInTurn old new steps = LeadsOn old new old steps
