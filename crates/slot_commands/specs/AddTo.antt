-- add-wants and add-requires: systemctl(1), "Unit File Commands".
use Rattle.std.specs.FinMap as map
use Rattle.std.specs.Prelude.{◌≡◌, ℕ, List, All, Contains, Option, Some, None}
use Rattle.unit_file.specs.Identity.{identity_of}
use Rattle.unit_file.specs.Listed.{listed_name}
use Rattle.unit_file.specs.Reading.{text_of}
use Rattle.link_tree.specs.declared.entry.Entry.{Entry}
use Rattle.link_tree.specs.declared.entry.Entry.TheVariants.{File, Link}
use Rattle.unit_paths.specs.declared.slot.Dependency.{Dependency}
use Rattle.unit_paths.specs.declared.slot.Dependency.TheVariants as dependencies
use Rattle.unit_paths.specs.declared.place.Place.{Place}
use Rattle.unit_paths.specs.Slots.{dependency_slot}
use Rattle.unit_paths.specs.Places.{scope_place}
use Rattle.link_tree.specs.Trees.{Entries, after_changes}
use Rattle.footprint.specs.declared.answer.Answer.TheVariants.{Done}
use Rattle.tree_access.specs.declared.refusal.Refusal.TheVariants.{NeedsInstance}
use Rattle.footprint.specs.Commands.{silent, carried_out}
use Rattle.footprint.specs.Inquiry.{Inquiry, stands_at}
use Rattle.footprint.specs.Operations.{Effect}
use Rattle.tree_access.specs.Rules.{link_at, LeadsAs}
use Rattle.footprint.specs.Steps.{Step, refuse, ruled, each_in_turn, ◌>>=◌}
use Rattle.slot_commands.specs.declared.add_to.AddTo.{AddTo}
use Rattle.slot_commands.specs.declared.add_to.AddedDependency.{AddedDependency}
use Rattle.slot_commands.specs.declared.add_to.AddedDependency.TheVariants.{Wants, Requires}
use Rattle.slot_commands.specs.Effects.{Keeps, AddsOnly}
use Rattle.footprint.specs.Units.{with_unit, IsFound}

-- what a command adds, among all dependencies
abbrev pub as_dependency : AddedDependency → Dependency
as_dependency Wants = dependencies.Wants
as_dependency Requires = dependencies.Requires

-- the DefaultInstance= of a unit, by what is at its file's path: systemd.unit(5), "[Install]
-- Section Options"
abbrev pub default_of : Option Entry → Option (List ℕ)
default_of (Some (File contents)) = (text_of contents).default_instance
default_of other = None

-- the name by which a unit is listed, by its DefaultInstance=
abbrev pub name_listed : (by real : List ℕ) → (default : Option (List ℕ)) → Option (List ℕ)
name_listed by real default = listed_name by real (identity_of real default)

-- the link is made, unless there is no name for it
abbrev pub add_listed : Place → Dependency → (by real file : List ℕ) → (name : Option (List ℕ)) → Step
add_listed place dependency by real file (Some name) = ruled (link_at file) (dependency_slot place dependency by name)
add_listed place dependency by real file None = refuse (NeedsInstance real)

-- a unit that was found, by its own name and its file
unfoldable pub add_file : Place → Dependency → (by real file : List ℕ) → Step
add_file place dependency by real file = do
  there ← stands_at file
  add_listed place dependency by real file (name_listed by real (default_of there))

-- one unit
unfoldable pub add_unit : Place → Dependency → (by unit : List ℕ) → Step
add_unit place dependency by unit = with_unit unit (add_file place dependency by)

-- each of the units
abbrev pub add_units : Place → Dependency → (units : List (List ℕ)) → (by : List ℕ) → Step
add_units place dependency units by = each_in_turn (add_unit place dependency by) units

-- the target is looked up first, and its own name is that of the directory
abbrev pub add_steps : AddTo → Step
add_steps add = with_unit add.target (λ real file. add_units (scope_place add.scope) (as_dependency add.dependency) add.units real)

-- What the command looks up in a tree, and what effect it has.
abbrev pub add_meaning : AddTo → Inquiry Effect
add_meaning add = carried_out (silent (add_steps add))

-- In a tree, a unit is found with this file, and this is the name of the link to it.
abbrev pub IsListed : Entries → (by unit name file : List ℕ) → Type 0
IsListed t by unit name file = (real : List ℕ) × IsFound t unit real file × (name_listed by real (default_of (map.get t file)) ≡ Some name)

-- The same in a tree between two others: the tree that the earlier units left.
abbrev pub IsListedBetween : (t u : Entries) → (by unit name file : List ℕ) → Type 0
IsListedBetween t u by unit name file = (m : Entries) × Keeps t m × Keeps m u × IsListed m by unit name file

-- An entry is the link to one of the units, under the name by which it is listed.
abbrev pub IsNewDependency : AddTo → (by : List ℕ) → (t u : Entries) → List ℕ → Entry → Type 0
IsNewDependency add by t u path entry =
    (unit name file : List ℕ) × Contains add.units unit × IsListedBetween t u by unit name file
    × (path ≡ dependency_slot (scope_place add.scope) (as_dependency add.dependency) by name) × (entry ≡ Link file)

-- A unit was found, and a link under the name by which it is listed leads to its file.
abbrev pub IsAdded : AddTo → (by : List ℕ) → (t u : Entries) → (unit : List ℕ) → Type 0
IsAdded add by t u unit =
    (name file : List ℕ) × IsListedBetween t u by unit name file × LeadsAs u (dependency_slot (scope_place add.scope) (as_dependency add.dependency) by name) file

-- The target is found, everything that was there stays, links to the units fill empty slots in the
-- target's directory, and afterwards each unit has such a link.
pub record AddsDependencies (add : AddTo) (t u : Entries) : Type 0 where
  pub by : List ℕ
  pub file : List ℕ
  pub found : IsFound t add.target by file
  pub kept : Keeps t u
  pub only : AddsOnly (IsNewDependency add by t u) t u
  pub added : All (IsAdded add by t u) add.units

-- The law of add-wants and add-requires, if they are accepted.
abbrev pub DependenciesAreAdded : Type 0
DependenciesAreAdded = (add : AddTo) (t : Entries) → ((add_meaning add).conclusion t).answer ≡ Done map.empty → AddsDependencies add t (after_changes ((add_meaning add).conclusion t).changes t)
