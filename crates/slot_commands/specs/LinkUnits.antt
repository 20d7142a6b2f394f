-- link: systemctl(1), "Unit File Commands".
use Rattle.std.specs.FinMap as map
use Rattle.std.specs.Prelude.{◌≡◌, ℕ, true, if◌then◌else◌, List, All, Contains, ◌⊎◌}
use Rattle.unit_name.specs.Name.{is_unit_name}
use Rattle.link_tree.specs.declared.entry.Entry.{Entry}
use Rattle.link_tree.specs.declared.entry.Entry.TheVariants.{Link}
use Rattle.unit_paths.specs.declared.place.Place.{Place}
use Rattle.unit_paths.specs.Slots.{unit_slot, slot_of}
use Rattle.unit_paths.specs.Kinds.{is_unit_slot}
use Rattle.unit_paths.specs.Places.{scope_place}
use Rattle.unit_paths.specs.Paths.{name_at}
use Rattle.link_tree.specs.Trees.{Entries, after_changes}
use Rattle.load_path.specs.declared.following.End.{End}
use Rattle.load_path.specs.declared.following.End.TheVariants as ends
use Rattle.load_path.specs.Follow.{follow}
use Rattle.footprint.specs.declared.answer.Answer.TheVariants.{Done}
use Rattle.tree_access.specs.declared.refusal.Subject.TheVariants.{Path}
use Rattle.tree_access.specs.declared.refusal.Refusal.TheVariants.{NotFound, Masked, Dangling, BadType}
use Rattle.footprint.specs.Commands.{silent, carried_out}
use Rattle.footprint.specs.Inquiry.{Inquiry, by_cells}
use Rattle.footprint.specs.Operations.{Effect}
use Rattle.tree_access.specs.Rules.{link_at, LeadsAs}
use Rattle.footprint.specs.Steps.{Step, nothing, refuse, ruled, each_in_turn, ◌>>=◌}
use Rattle.slot_commands.specs.declared.link_units.LinkUnits.{LinkUnits}
use Rattle.slot_commands.specs.Effects.{Keeps, AddsOnly}

-- a file is linked under its own name, unless it is in a directory of units
abbrev pub link_file : Place → (path : List ℕ) → Step
link_file place path =
    if is_unit_name (name_at path) then (if is_unit_slot (slot_of path) then nothing else ruled (link_at path) (unit_slot place (name_at path)))
    else refuse (BadType (Path path))

-- the result, by where the links from the path end
abbrev pub link_end : Place → (path : List ℕ) → End → Step
link_end place path ends.Missing = refuse (NotFound (Path path))
link_end place path ends.Null = refuse (Masked (Path path))
link_end place path (ends.Dangling link) = refuse (Dangling link)
link_end place path (ends.File file) = link_file place path

-- one path
unfoldable pub link_unit : Place → (path : List ℕ) → Step
link_unit place path = do
  end ← by_cells (follow path)
  link_end place path end

-- each of the paths
abbrev pub link_steps : LinkUnits → Step
link_steps link = each_in_turn (link_unit (scope_place link.scope)) link.paths

-- What the command looks up in a tree, and what effect it has.
abbrev pub link_meaning : LinkUnits → Inquiry Effect
link_meaning link = carried_out (silent (link_steps link))

-- A link to one of the files, under the file's name.
abbrev pub IsLinkToOne : Place → (files : List (List ℕ)) → List ℕ → Entry → Type 0
IsLinkToOne place files path entry = (file : List ℕ) × Contains files file × ((path ≡ unit_slot place (name_at file)) × (entry ≡ Link file))

-- A file is in a directory of units, or a link under its name leads to it.
abbrev pub IsLinked : Place → Entries → (file : List ℕ) → Type 0
IsLinked place t file = (is_unit_slot (slot_of file) ≡ true) ⊎ LeadsAs t (unit_slot place (name_at file)) file

-- Links to the files fill empty slots, nothing else changes, and afterwards each file is linked.
pub record LinksFiles (place : Place) (files : List (List ℕ)) (t u : Entries) : Type 0 where
  pub kept : Keeps t u
  pub only : AddsOnly (IsLinkToOne place files) t u
  pub linked : All (IsLinked place u) files

-- The law of link, if it is accepted.
abbrev pub FilesAreLinked : Type 0
FilesAreLinked = (link : LinkUnits) (t : Entries) → ((link_meaning link).conclusion t).answer ≡ Done map.empty → LinksFiles (scope_place link.scope) link.paths t (after_changes ((link_meaning link).conclusion t).changes t)
