-- Why the commands on slots are refused, each the contract of a public function.
use Rattle.std.specs.Prelude.{◌≡◌, ◌≢◌, ℕ, ◌↔◌, true, false, List, Some}
use Rattle.std.specs.FinMap as map
use Rattle.unit_name.specs.declared.kind.Kind.TheVariants.{Instance}
use Rattle.unit_name.specs.declared.kind.UnitType.TheVariants.{Target}
use Rattle.unit_name.specs.Name.{is_unit_name, instance_of, type_of}
use Rattle.unit_name.specs.Parts.{kind_of}
use Rattle.unit_file.specs.Identity.{identity_of}
use Rattle.unit_file.specs.Listed.{is_template_name, stands_for_instance}
use Rattle.unit_paths.specs.declared.place.Place.{Place}
use Rattle.unit_paths.specs.Kinds.{is_unit_slot}
use Rattle.unit_paths.specs.Paths.{name_at}
use Rattle.unit_paths.specs.Places.{scope_place}
use Rattle.unit_paths.specs.Slots.{slot_of, unit_slot}
use Rattle.link_tree.specs.declared.entry.Entry.TheVariants.{File}
use Rattle.link_tree.specs.Trees.{Entries}
use Rattle.load_path.specs.declared.following.End.TheVariants as ends
use Rattle.load_path.specs.Follow.{follow}
use Rattle.footprint.specs.declared.answer.Answer.TheVariants.{Refused}
use Rattle.tree_access.specs.declared.refusal.Refusal.{Refusal}
use Rattle.tree_access.specs.declared.refusal.Refusal.TheVariants.{NotFound, Masked, Dangling, BadType, NeedsInstance, Exists}
use Rattle.tree_access.specs.declared.refusal.Subject.TheVariants as subjects
use Rattle.footprint.specs.Units.{IsFound}
use Rattle.slot_commands.specs.declared.add_to.AddTo.{AddTo}
use Rattle.slot_commands.specs.declared.link_units.LinkUnits.{LinkUnits}
use Rattle.slot_commands.specs.declared.set_default.SetDefault.{SetDefault}
use Rattle.slot_commands.specs.AddTo.{add_meaning, default_of, IsListed}
use Rattle.slot_commands.specs.LinkUnits.{link_meaning}
use Rattle.slot_commands.specs.SetDefault.{default_slot, default_meaning}
use Rattle.footprint_laws.specs.Sets.{HasTurn}
use Rattle.footprint_laws.specs.Slots.{add_step, added_slot, link_step}
use Rattle.refusal_laws.specs.Reasons.{WhyNoUnit, IsTaken}

-- set-default, systemctl(1), "set-default TARGET": the unit isn't found; the name that was given is
-- that of no target; it is a template; or there is a file at the path of the link.
pub data WhyNotDefault (set_default : SetDefault) (t : Entries) : Refusal → Type 0 where
  NoUnit : (why : Refusal) → WhyNoUnit t set_default.unit why → WhyNotDefault set_default t why
  NoTarget : (real file : List ℕ) → IsFound t set_default.unit real file → type_of set_default.unit ≢ Some Target → WhyNotDefault set_default t (BadType (subjects.Unit set_default.unit))
  Template : (real file : List ℕ) → IsFound t set_default.unit real file → type_of set_default.unit ≡ Some Target → is_template_name real ≡ true → WhyNotDefault set_default t (NeedsInstance real)
  FileThere : (real file contents : List ℕ) → IsFound t set_default.unit real file → type_of set_default.unit ≡ Some Target → is_template_name real ≡ false
      → map.get t default_slot ≡ Some (File contents) → WhyNotDefault set_default t (Exists default_slot)

-- It is refused exactly for these reasons.
abbrev pub SetDefaultRefused : Type 0
SetDefaultRefused = (set_default : SetDefault) (t : Entries) (refusal : Refusal) → (((default_meaning set_default).conclusion t).answer ≡ Refused refusal) ↔ WhyNotDefault set_default t refusal

-- link, for one path, systemctl(1), "link PATH": nothing is there; it leads to /dev/null or to an
-- empty file; its links lead to no file; its name is that of no unit; or, if it is in none of the
-- directories of units, something other than a link to it is at its slot.
pub data WhyNotLinked (place : Place) (t : Entries) (path : List ℕ) : Refusal → Type 0 where
  NoFile : (follow path).conclusion t ≡ ends.Missing → WhyNotLinked place t path (NotFound (subjects.Path path))
  Mask : (follow path).conclusion t ≡ ends.Null → WhyNotLinked place t path (Masked (subjects.Path path))
  LeadsNowhere : (link : List ℕ) → (follow path).conclusion t ≡ ends.Dangling link → WhyNotLinked place t path (Dangling link)
  NoUnitName : (file : List ℕ) → (follow path).conclusion t ≡ ends.File file → is_unit_name (name_at path) ≡ false → WhyNotLinked place t path (BadType (subjects.Path path))
  SlotTaken : (file : List ℕ) → (follow path).conclusion t ≡ ends.File file → is_unit_name (name_at path) ≡ true → is_unit_slot (slot_of path) ≡ false
      → IsTaken t (unit_slot place (name_at path)) path → WhyNotLinked place t path (Exists (unit_slot place (name_at path)))

-- link: the first of the paths for which there is a reason, in the tree that has the links to the
-- earlier ones.
pub data WhyNoLinks (link : LinkUnits) (t : Entries) : Refusal → Type 0 where
  ForPath : (u : Entries) (path : List ℕ) (why : Refusal) → HasTurn (link_step link) link.paths t u path → WhyNotLinked (scope_place link.scope) u path why → WhyNoLinks link t why

-- It is refused exactly for these reasons.
abbrev pub LinkRefused : Type 0
LinkRefused = (link : LinkUnits) (t : Entries) (refusal : Refusal) → (((link_meaning link).conclusion t).answer ≡ Refused refusal) ↔ WhyNoLinks link t refusal

-- A template represents its default instance, and has none: systemd.unit(5), "[Install] Section
-- Options", `DefaultInstance=`.
abbrev pub LacksInstance : Entries → (by real file : List ℕ) → Type 0
LacksInstance t by real file = (stands_for_instance by real ≡ true) × (kind_of (instance_of (identity_of real (default_of (map.get t file)))) ≢ Instance)

-- add-wants and add-requires, for one unit, given the target's own name: the unit isn't found; it
-- is a template that represents its default instance and has none; or something other than a link
-- to it is at the slot of its link.
pub data WhyNotAdded (add : AddTo) (by : List ℕ) (t : Entries) (unit : List ℕ) : Refusal → Type 0 where
  NoUnit : (why : Refusal) → WhyNoUnit t unit why → WhyNotAdded add by t unit why
  NoInstance : (real file : List ℕ) → IsFound t unit real file → LacksInstance t by real file → WhyNotAdded add by t unit (NeedsInstance real)
  SlotTaken : (name file : List ℕ) → IsListed t by unit name file → IsTaken t (added_slot add by name) file → WhyNotAdded add by t unit (Exists (added_slot add by name))

-- add-wants and add-requires, systemctl(1), "add-wants TARGET UNIT", "add-requires TARGET UNIT":
-- the target isn't found; or the first of the units for which there is a reason, in the tree that
-- has the links to the earlier ones.
pub data WhyNoneAdded (add : AddTo) (t : Entries) : Refusal → Type 0 where
  NoTarget : (why : Refusal) → WhyNoUnit t add.target why → WhyNoneAdded add t why
  ForUnit : (by file : List ℕ) (u : Entries) (unit : List ℕ) (why : Refusal) → IsFound t add.target by file → HasTurn (add_step add by) add.units t u unit
      → WhyNotAdded add by u unit why → WhyNoneAdded add t why

-- They are refused exactly for these reasons.
abbrev pub AddRefused : Type 0
AddRefused = (add : AddTo) (t : Entries) (refusal : Refusal) → (((add_meaning add).conclusion t).answer ≡ Refused refusal) ↔ WhyNoneAdded add t refusal
