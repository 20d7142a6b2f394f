-- How each slot is spelled: systemd.unit(5), "Unit File Load Path"; systemd.preset(5).
use Rattle.std.specs.Prelude.{◌≡◌, ◌≢◌, ◌↔◌, ℕ, true, List, [], ◌∷◌, ◌++◌, Some, Contains, All, codes}
use Rattle.unit_name.specs.Name.{is_unit_name}
use Rattle.unit_paths.specs.Places.{preset_directory, preset_places}
use Rattle.unit_paths.specs.Slots.{unit_slot, dependency_slot, slot_of}
use Rattle.unit_paths.specs.declared.place.Place.{Place}
use Rattle.unit_paths.specs.declared.slot.Dependency.{Dependency}
use Rattle.unit_paths.specs.declared.slot.Dependency.TheVariants as dependencies
use Rattle.unit_paths.specs.declared.slot.Slot.{Slot}
use Rattle.unit_paths.specs.declared.slot.Slot.TheVariants as slots
use Prim.Native.Char.{code}

-- DIR/NAME
abbrev pub IsUnitSlot : List ℕ → Place → Type 0
IsUnitSlot path place = (name : List ℕ) × (is_unit_name name ≡ true) × (path ≡ unit_slot place name)

-- DIR/OF.wants/NAME, DIR/OF.requires/NAME or DIR/OF.upholds/NAME
abbrev pub IsDependencySlot : List ℕ → Place → Dependency → Type 0
IsDependencySlot path place dependency = (of name : List ℕ) × (is_unit_name of ≡ true) × (is_unit_name name ≡ true) × (path ≡ dependency_slot place dependency of name)

-- DIR-preset/FILE.preset, where FILE is some bytes without a slash
abbrev pub IsPresetSlot : List ℕ → Place → Type 0
IsPresetSlot path place = (file : List ℕ) × Contains preset_places place × (file ≢ []) × All (λ b. b ≢ code "/") file
    × (path ≡ preset_directory place ++ code "/" ∷ (file ++ codes ".preset"))

abbrev pub IsSpelled : List ℕ → Slot → Type 0
IsSpelled path (slots.Unit place) = IsUnitSlot path place
IsSpelled path (slots.Wants place) = IsDependencySlot path place dependencies.Wants
IsSpelled path (slots.Requires place) = IsDependencySlot path place dependencies.Requires
IsSpelled path (slots.Upholds place) = IsDependencySlot path place dependencies.Upholds
IsSpelled path (slots.Preset place) = IsPresetSlot path place

-- A path is a slot exactly if it is spelled so.
abbrev pub SlotsAreSpelled : Type 0
SlotsAreSpelled = (path : List ℕ) (slot : Slot) → (slot_of path ≡ Some slot) ↔ IsSpelled path slot
