-- In which area are the entries at which a key looks.
use Rattle.std.proofs.Common.{◌≡◌, ◌&&◌, ℕ, Bool, true, false, List, Option, Some, None, refl, subst, inr}
use Rattle.std.specs.Prelude.{not}
use Rattle.std.proofs.lemmas.Bool.{false≢true}
use Rattle.unit_paths.specs.Canonical.{is_null_target}
use Rattle.unit_paths.specs.Kinds.{is_preset, is_dependency}
use Rattle.unit_paths.specs.Places.{scope_place, scope_of_place}
use Rattle.unit_paths.specs.Slots.{slot_of}
use Rattle.unit_paths.specs.declared.place.Place.{Place}
use Rattle.unit_paths.specs.declared.place.Place.TheVariants.{Etc, Run, Local, Vendor}
use Rattle.unit_paths.specs.declared.place.Scope.{Scope}
use Rattle.unit_paths.specs.declared.place.Scope.TheVariants as scopes
use Rattle.unit_paths.specs.declared.slot.Slot.{Slot}
use Rattle.unit_paths.specs.declared.slot.Slot.TheVariants as slots
use Rattle.link_tree.specs.declared.entry.Entry.{Entry}
use Rattle.link_tree.specs.declared.entry.Entry.TheVariants.{File, Link}
use Rattle.link_tree.specs.Links.{belongs, is_named, is_of_scope, is_scope}
use Rattle.disk.specs.Partials.{IsIn, IsDependencySlotOf}
use Rattle.disk.specs.declared.partial.Area.TheVariants.{Units, Dependencies, Presets}
use Rattle.disk.proofs.SlotAreas.{slot_is_in}

-- the directory of units of a scope
scope_is : (scope : Scope) (place : Place) → is_scope scope (scope_of_place place) ≡ true → place ≡ scope_place scope
scope_is scopes.Etc Etc h = refl
scope_is scopes.Etc Run h = absurd (false≢true h)
scope_is scopes.Etc Local h = absurd (false≢true h)
scope_is scopes.Etc Vendor h = absurd (false≢true h)
scope_is scopes.Run Etc h = absurd (false≢true h)
scope_is scopes.Run Run h = refl
scope_is scopes.Run Local h = absurd (false≢true h)
scope_is scopes.Run Vendor h = absurd (false≢true h)

-- the slots of dependencies are among those of their directory of units
among_units : (place : Place) (path : List ℕ) → IsDependencySlotOf place path → IsIn (Units place) path
among_units place path is = (is.0, inr is.1)

-- a slot of a scope is in the area of its directory of units
of_scope : (scope : Scope) (path : List ℕ) (slot : Option Slot) → slot_of path ≡ slot → is_of_scope scope slot ≡ true → IsIn (Units (scope_place scope)) path
of_scope scope path None is h = absurd (false≢true h)
of_scope scope path (Some (slots.Unit place)) is h = subst (λ p. IsIn (Units p) path) (scope_is scope place h) (slot_is_in path (slots.Unit place) is)
of_scope scope path (Some (slots.Wants place)) is h = subst (λ p. IsIn (Units p) path) (scope_is scope place h) (among_units place path (slot_is_in path (slots.Wants place) is))
of_scope scope path (Some (slots.Requires place)) is h = subst (λ p. IsIn (Units p) path) (scope_is scope place h) (among_units place path (slot_is_in path (slots.Requires place) is))
of_scope scope path (Some (slots.Upholds place)) is h = subst (λ p. IsIn (Units p) path) (scope_is scope place h) (among_units place path (slot_is_in path (slots.Upholds place) is))
of_scope scope path (Some (slots.Preset place)) is h = absurd (false≢true h)

first_part : (a b : Bool) → (a && b) ≡ true → a ≡ true
first_part true b h = refl
first_part false b h = absurd (false≢true h)

-- so is a link that belongs to a name
pub marked_in : (scope : Scope) (name path : List ℕ) (entry : Entry) → belongs scope name path entry ≡ true → IsIn (Units (scope_place scope)) path
unfolding belongs
marked_in scope name path (File contents) h = absurd (false≢true h)
marked_in scope name path (Link target) h =
    of_scope scope path (slot_of path) refl (first_part (is_of_scope scope (slot_of path)) (not (is_null_target path target)) (first_part (is_of_scope scope (slot_of path) && not (is_null_target path target)) (is_named name path target) h))

-- the slots of presets are an area
pub preset_in : (path : List ℕ) (slot : Option Slot) → slot_of path ≡ slot → is_preset slot ≡ true → IsIn Presets path
preset_in path None is h = absurd (false≢true h)
preset_in path (Some (slots.Unit place)) is h = absurd (false≢true h)
preset_in path (Some (slots.Wants place)) is h = absurd (false≢true h)
preset_in path (Some (slots.Requires place)) is h = absurd (false≢true h)
preset_in path (Some (slots.Upholds place)) is h = absurd (false≢true h)
preset_in path (Some (slots.Preset place)) is h = slot_is_in path (slots.Preset place) is

-- and those of dependencies are four
pub dependency_in : (path : List ℕ) (slot : Option Slot) → slot_of path ≡ slot → is_dependency slot ≡ true → (place : Place) × IsIn (Dependencies place) path
dependency_in path None is h = absurd (false≢true h)
dependency_in path (Some (slots.Unit place)) is h = absurd (false≢true h)
dependency_in path (Some (slots.Wants place)) is h = (place, slot_is_in path (slots.Wants place) is)
dependency_in path (Some (slots.Requires place)) is h = (place, slot_is_in path (slots.Requires place) is)
dependency_in path (Some (slots.Upholds place)) is h = (place, slot_is_in path (slots.Upholds place) is)
dependency_in path (Some (slots.Preset place)) is h = absurd (false≢true h)
