-- What depends on the kind of a slot, kind by kind: a new kind must be added to each of these.
use Rattle.std.specs.Prelude.{Bool, true, false, Option, Some, None, is_some}
use Rattle.unit_paths.specs.Places.{scope_of_place}
use Rattle.unit_paths.specs.declared.place.Scope.{Scope}
use Rattle.unit_paths.specs.declared.slot.Dependency.{Dependency}
use Rattle.unit_paths.specs.declared.slot.Dependency.TheVariants as dependencies
use Rattle.unit_paths.specs.declared.slot.Slot.{Slot}
use Rattle.unit_paths.specs.declared.slot.Slot.TheVariants.{Unit, Wants, Requires, Upholds, Preset}

-- whether it is the slot of a unit, in one of the four directories of units
abbrev pub is_unit_slot : Option Slot → Bool
is_unit_slot None = false
is_unit_slot (Some (Unit place)) = true
is_unit_slot (Some (Wants place)) = false
is_unit_slot (Some (Requires place)) = false
is_unit_slot (Some (Upholds place)) = false
is_unit_slot (Some (Preset place)) = false

-- whether it is the slot of a file of presets
abbrev pub is_preset : Option Slot → Bool
is_preset None = false
is_preset (Some (Unit place)) = false
is_preset (Some (Wants place)) = false
is_preset (Some (Requires place)) = false
is_preset (Some (Upholds place)) = false
is_preset (Some (Preset place)) = true

-- of which kind of dependency it is the slot, if it is one of a dependency: systemd.unit(5),
-- "Wants=", "Requires=" and "Upholds="
abbrev pub dependency_of : Option Slot → Option Dependency
dependency_of None = None
dependency_of (Some (Unit place)) = None
dependency_of (Some (Wants place)) = Some dependencies.Wants
dependency_of (Some (Requires place)) = Some dependencies.Requires
dependency_of (Some (Upholds place)) = Some dependencies.Upholds
dependency_of (Some (Preset place)) = None

abbrev pub is_dependency : Option Slot → Bool
is_dependency slot = is_some (dependency_of slot)

-- the scope in which it is the slot of a unit or of a dependency, if it is one
abbrev pub scope_of : Option Slot → Option Scope
scope_of None = None
scope_of (Some (Unit place)) = scope_of_place place
scope_of (Some (Wants place)) = scope_of_place place
scope_of (Some (Requires place)) = scope_of_place place
scope_of (Some (Upholds place)) = scope_of_place place
scope_of (Some (Preset place)) = None
