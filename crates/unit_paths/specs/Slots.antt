-- Slots: the paths at which commands place entries.
use Rattle.std.specs.Prelude.{ℕ, ◌-◌, Bool, not, ◌&&◌, nat_eq, if◌then◌else◌, List, ◌∷◌, ◌++◌, length, take, Option, Some, None, is_some, codes}
use Rattle.std.specs.List.{ends_with}
use Rattle.std.specs.Str.{bytes_eq}
use Rattle.unit_name.specs.Name.{is_unit_name}
use Rattle.unit_paths.specs.Paths.{parent, name_at}
use Rattle.unit_paths.specs.Places.{unit_directory, place_of, preset_place_of}
use Rattle.unit_paths.specs.declared.place.Place.{Place}
use Rattle.unit_paths.specs.declared.slot.Dependency.{Dependency}
use Rattle.unit_paths.specs.declared.slot.Dependency.TheVariants as dependencies
use Rattle.unit_paths.specs.declared.slot.Slot.{Slot}
use Rattle.unit_paths.specs.declared.slot.Slot.TheVariants as slots
use Prim.Native.Char.{code}

-- DIR/NAME: the path of a unit's file or link in a directory
abbrev pub unit_slot : Place → List ℕ → List ℕ
unit_slot place name = unit_directory place ++ code "/" ∷ name

-- how the name of a dependency directory ends
unfoldable pub dependency_ending : Dependency → List ℕ
dependency_ending dependencies.Wants = codes ".wants"
dependency_ending dependencies.Requires = codes ".requires"
dependency_ending dependencies.Upholds = codes ".upholds"

-- DIR/OF.wants/NAME, DIR/OF.requires/NAME or DIR/OF.upholds/NAME: the path of the link by which a
-- unit depends on another
abbrev pub dependency_slot : Place → Dependency → (of name : List ℕ) → List ℕ
dependency_slot place dependency of name = unit_slot place (of ++ dependency_ending dependency) ++ code "/" ∷ name

-- which slot that is
abbrev pub slot_of_dependency : Place → Dependency → Slot
slot_of_dependency place dependencies.Wants = slots.Wants place
slot_of_dependency place dependencies.Requires = slots.Requires place
slot_of_dependency place dependencies.Upholds = slots.Upholds place

-- the name of a dependency directory: a unit's name and the ending
unfoldable pub is_dependency_directory : List ℕ → List ℕ → Bool
is_dependency_directory ending name = ends_with nat_eq name ending && is_unit_name (take (length name - length ending) name)

-- which slots the dependency directory of this name contains, if it is one
unfoldable pub dependency_directory_slots : Place → List ℕ → Option Slot
dependency_directory_slots place name =
    if is_dependency_directory (codes ".wants") name then Some (slots.Wants place)
    else if is_dependency_directory (codes ".requires") name then Some (slots.Requires place)
    else if is_dependency_directory (codes ".upholds") name then Some (slots.Upholds place)
    else None

-- the same, if the directory above is one of units
abbrev pub dependency_slots_in : Option Place → List ℕ → Option Slot
dependency_slots_in None name = None
dependency_slots_in (Some place) name = dependency_directory_slots place name

-- the slots of a directory of units, else those of one of presets, else those of another
abbrev pub first_directory : Option Place → Option Place → Option Slot → Option Slot
first_directory (Some place) preset other = Some (slots.Unit place)
first_directory None (Some place) other = Some (slots.Preset place)
first_directory None None other = other

-- which slots a directory contains, if it can contain any
unfoldable pub slots_in : List ℕ → Option Slot
slots_in dir = first_directory (place_of dir) (preset_place_of dir) (dependency_slots_in (place_of (parent dir)) (name_at dir))

-- the name of a file of presets: a name and the ending .preset
unfoldable pub is_preset_name : List ℕ → Bool
is_preset_name name = ends_with nat_eq name (codes ".preset") && not (bytes_eq name (codes ".preset"))

-- whether an entry at a slot of this kind may have the name
abbrev pub is_name_for : Slot → List ℕ → Bool
is_name_for (slots.Unit place) name = is_unit_name name
is_name_for (slots.Wants place) name = is_unit_name name
is_name_for (slots.Requires place) name = is_unit_name name
is_name_for (slots.Upholds place) name = is_unit_name name
is_name_for (slots.Preset place) name = is_preset_name name

-- the slot, if the name is right for it
abbrev pub named_slot : Option Slot → List ℕ → Option Slot
named_slot None name = None
named_slot (Some slot) name = if is_name_for slot name then Some slot else None

-- Which slot a path is: DIR/NAME, DIR/OF.wants/NAME, DIR/OF.requires/NAME and DIR/OF.upholds/NAME
-- with the names of units, or FILE.preset in a directory of presets.
unfoldable pub slot_of : List ℕ → Option Slot
slot_of path = named_slot (slots_in (parent path)) (name_at path)

abbrev pub is_slot : List ℕ → Bool
is_slot path = is_some (slot_of path)
