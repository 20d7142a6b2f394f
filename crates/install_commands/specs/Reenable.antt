-- Reenabling units: systemctl(1), "reenable".
use Rattle.std.specs.Prelude.{ℕ, if◌then◌else◌, List, [], ◌∷◌, ◌++◌, Result, false}
use Rattle.unit_paths.specs.declared.place.Scope.{Scope}
use Rattle.unit_paths.specs.Slots.{slot_of}
use Rattle.unit_paths.specs.Kinds.{is_unit_slot}
use Rattle.load_path.specs.declared.finding.Found.{Found}
use Rattle.load_path.specs.declared.finding.Found.TheVariants.{Unit}
use Rattle.load_path.specs.Find.{find}
use Rattle.tree_access.specs.declared.refusal.Refusal.{Refusal}
use Rattle.footprint.specs.Commands.{Command, unless_refused, carried_out}
use Rattle.footprint.specs.Inquiry.{Inquiry, over, giving, with_cells, ◌>>=◌}
use Rattle.footprint.specs.Operations.{Effect}
use Rattle.footprint.specs.Then.{followed_by}
use Rattle.install_commands.specs.declared.disable.Named.{Named}
use Rattle.install_commands.specs.declared.reenable.Reenable.{Reenable}
use Rattle.install_commands.specs.Check.{going_on, checked}
use Rattle.install_commands.specs.Disable.{units_named, links_removed_but}
use Rattle.install_commands.specs.Enable.{units_enabled}

-- Also keeps the cells by which a name was found, if it is a unit whose file is in none of the four
-- directories.
abbrev pub with_kept : (kept : List (List ℕ)) → Found × List (List ℕ) → List (List ℕ)
with_kept kept (Unit real file place, cells) = if is_unit_slot (slot_of file) then kept else kept ++ cells
with_kept kept (other, cells) = kept

-- the cells that are kept for names, in order, after these
abbrev pub kept_behind : (kept : List (List ℕ)) → (names : List (List ℕ)) → Inquiry (List (List ℕ))
kept_behind kept [] = over kept
kept_behind kept (name ∷ names) = do
  more ← giving (with_cells (find name)) (with_kept kept)
  kept_behind more names

-- the names of the units, which are checked first
abbrev pub checked_named : (units : List (List ℕ)) → Inquiry (Result Named Refusal)
checked_named units = do
  fine ← checked units
  going_on (λ fine. units_named units) fine

-- removes the links that belong to one of the names, except those by which a file outside the four
-- directories is found
abbrev pub links_cleared : Scope → Named → Command
links_cleared scope named = do
  kept ← kept_behind [] named.names
  links_removed_but scope kept named

-- The first part: the units are checked, and their links are removed,
abbrev pub reenable_disables : Reenable → Command
reenable_disables reenable = do
  named ← checked_named reenable.units
  unless_refused (links_cleared reenable.scope) named

-- and then they are enabled.
abbrev pub reenable_enables : Reenable → Command
reenable_enables reenable = units_enabled reenable.scope false reenable.units

-- What the command looks up in a tree, and what effect it has.
abbrev pub reenable_meaning : Reenable → Inquiry Effect
reenable_meaning reenable = followed_by (carried_out (reenable_disables reenable)) (carried_out (reenable_enables reenable))
