-- Which keys the commands on slots look at, each the contract of a public function.
use Rattle.std.specs.Prelude.{◌≡◌, ℕ, ◌↔◌, true, false, List, Contains}
use Rattle.unit_name.specs.Name.{is_unit_name, type_of}
use Rattle.unit_file.specs.Listed.{is_template_name}
use Rattle.unit_paths.specs.declared.place.Scope.{Scope}
use Rattle.unit_paths.specs.Kinds.{is_unit_slot}
use Rattle.unit_paths.specs.Paths.{name_at}
use Rattle.unit_paths.specs.Places.{scope_place}
use Rattle.unit_paths.specs.Slots.{dependency_slot, is_slot, slot_of, unit_slot}
use Rattle.link_tree.specs.Trees.{Entries}
use Rattle.load_path.specs.declared.following.End.TheVariants as ends
use Rattle.load_path.specs.Follow.{follow}
use Rattle.tree_access.specs.declared.key.Key.{Key}
use Rattle.tree_access.specs.declared.key.Key.TheVariants.{Cell}
use Rattle.footprint.specs.Steps.{Step}
use Rattle.footprint.specs.Units.{IsFound}
use Rattle.slot_commands.specs.declared.add_to.AddTo.{AddTo}
use Rattle.slot_commands.specs.declared.by_hand.PlaceEntry.{PlaceEntry}
use Rattle.slot_commands.specs.declared.by_hand.RemoveEntry.{RemoveEntry}
use Rattle.slot_commands.specs.declared.link_units.LinkUnits.{LinkUnits}
use Rattle.slot_commands.specs.declared.mask.Mask.{Mask}
use Rattle.slot_commands.specs.declared.mask.Unmask.{Unmask}
use Rattle.slot_commands.specs.declared.set_default.SetDefault.{SetDefault}
use Rattle.slot_commands.specs.AddTo.{add_meaning, add_unit, as_dependency, IsListed}
use Rattle.slot_commands.specs.ByHand.{place_meaning, remove_meaning}
use Rattle.slot_commands.specs.LinkUnits.{link_unit, link_meaning}
use Rattle.slot_commands.specs.Masks.{is_in_the_way, mask_meaning, unmask_meaning}
use Rattle.slot_commands.specs.SetDefault.{default_slot, is_target_type, default_meaning}
use Rattle.footprint_laws.specs.Sets.{LooksAt, IsUpTo, IsLookedUp, HasTurn}

-- mask: the slot of each unit, up to the first that has anything but a link to /dev/null.
abbrev pub MaysMask : Scope → Entries → (unit : List ℕ) → Type 0
MaysMask scope t unit = is_in_the_way t (unit_slot (scope_place scope) unit) ≡ false

pub data MaskKeys (mask : Mask) (t : Entries) : Key → Type 0 where
  Slot : (unit : List ℕ) → IsUpTo (MaysMask mask.scope t) mask.units unit → MaskKeys mask t (Cell (unit_slot (scope_place mask.scope) unit))

abbrev pub MaskLooks : Type 0
MaskLooks = (mask : Mask) (t : Entries) (key : Key) → LooksAt mask_meaning mask t key ↔ MaskKeys mask t key

-- unmask, which is never refused: the slot of each unit.
pub data UnmaskKeys (unmask : Unmask) : Key → Type 0 where
  Slot : (unit : List ℕ) → Contains unmask.units unit → UnmaskKeys unmask (Cell (unit_slot (scope_place unmask.scope) unit))

abbrev pub UnmaskLooks : Type 0
UnmaskLooks = (unmask : Unmask) (t : Entries) (key : Key) → LooksAt unmask_meaning unmask t key ↔ UnmaskKeys unmask key

-- An entry that is placed by hand: its path, if that is a slot.
pub data PlaceKeys (place : PlaceEntry) : Key → Type 0 where
  Slot : is_slot place.path ≡ true → PlaceKeys place (Cell place.path)

abbrev pub PlaceLooks : Type 0
PlaceLooks = (place : PlaceEntry) (t : Entries) (key : Key) → LooksAt place_meaning place t key ↔ PlaceKeys place key

-- An entry that is removed by hand: its path, if that is a slot.
pub data RemoveKeys (remove : RemoveEntry) : Key → Type 0 where
  Slot : is_slot remove.path ≡ true → RemoveKeys remove (Cell remove.path)

abbrev pub RemoveLooks : Type 0
RemoveLooks = (remove : RemoveEntry) (t : Entries) (key : Key) → LooksAt remove_meaning remove t key ↔ RemoveKeys remove key

-- set-default: the paths at which the unit is looked up; and, if it is found and may be the
-- default, the link of `default.target`.
pub data SetDefaultKeys (set_default : SetDefault) (t : Entries) : Key → Type 0 where
  Unit : (path : List ℕ) → IsLookedUp t set_default.unit path → SetDefaultKeys set_default t (Cell path)
  Link : (real file : List ℕ) → IsFound t set_default.unit real file → is_target_type (type_of set_default.unit) ≡ true → is_template_name real ≡ false → SetDefaultKeys set_default t (Cell default_slot)

abbrev pub SetDefaultLooks : Type 0
SetDefaultLooks = (set_default : SetDefault) (t : Entries) (key : Key) → LooksAt default_meaning set_default t key ↔ SetDefaultKeys set_default t key

-- what link does for one path
abbrev pub link_step : LinkUnits → (path : List ℕ) → Step
link_step link = link_unit (scope_place link.scope)

-- link: for each path, up to the first that is refused, in the tree that has the links to the
-- earlier ones: the path, and the paths to which links lead from it; and, if they lead to a file
-- that has a unit's name and is in none of the directories of units, the slot of that name in the
-- scope.
pub data LinkKeys (link : LinkUnits) (t : Entries) : Key → Type 0 where
  Way : (u : Entries) (path cell : List ℕ) → HasTurn (link_step link) link.paths t u path → Contains ((follow path).cells u) cell → LinkKeys link t (Cell cell)
  Slot : (u : Entries) (path file : List ℕ) → HasTurn (link_step link) link.paths t u path → (follow path).conclusion u ≡ ends.File file
      → is_unit_name (name_at path) ≡ true → is_unit_slot (slot_of path) ≡ false → LinkKeys link t (Cell (unit_slot (scope_place link.scope) (name_at path)))

abbrev pub LinkLooks : Type 0
LinkLooks = (link : LinkUnits) (t : Entries) (key : Key) → LooksAt link_meaning link t key ↔ LinkKeys link t key

-- what add-wants and add-requires do for one unit, given the target's own name
abbrev pub add_step : AddTo → (by unit : List ℕ) → Step
add_step add by = add_unit (scope_place add.scope) (as_dependency add.dependency) by

-- the slot of a unit's link in the directory of a target
abbrev pub added_slot : AddTo → (by name : List ℕ) → List ℕ
added_slot add by name = dependency_slot (scope_place add.scope) (as_dependency add.dependency) by name

-- add-wants and add-requires: the paths at which the target is looked up; if it is found, for each
-- unit, up to the first that is refused, in the tree that has the links to the earlier ones: the
-- paths at which it is looked up, and, if it is found and there is a name by which it is listed,
-- the slot of that name in the target's directory.
pub data AddKeys (add : AddTo) (t : Entries) : Key → Type 0 where
  Target : (path : List ℕ) → IsLookedUp t add.target path → AddKeys add t (Cell path)
  Unit : (by file : List ℕ) (u : Entries) (unit path : List ℕ) → IsFound t add.target by file → HasTurn (add_step add by) add.units t u unit → IsLookedUp u unit path → AddKeys add t (Cell path)
  Link : (by file : List ℕ) (u : Entries) (unit name its : List ℕ) → IsFound t add.target by file → HasTurn (add_step add by) add.units t u unit
      → IsListed u by unit name its → AddKeys add t (Cell (added_slot add by name))

abbrev pub AddLooks : Type 0
AddLooks = (add : AddTo) (t : Entries) (key : Key) → LooksAt add_meaning add t key ↔ AddKeys add t key
