-- The area in which a slot is.
use Rattle.std.proofs.Common.{◌≡◌, ℕ, Bool, true, false, cond, List, Option, Some, None, Contains, refl, sym, ap, subst, ◌∙◌, inl, arith}
use Rattle.std.specs.Prelude.{is_some, codes}
use Rattle.unit_paths.specs.Paths.{parent, name_at}
use Rattle.unit_paths.specs.Places.{unit_directory, preset_directory, preset_places, place_of, preset_place_of}
use Rattle.unit_paths.specs.Slots.{slot_of, slots_in, named_slot, is_name_for, first_directory, dependency_slots_in, dependency_directory_slots, is_dependency_directory}
use Rattle.unit_paths.specs.declared.place.Place.{Place}
use Rattle.unit_paths.specs.declared.place.Place.TheVariants.{Etc, Run, Local, Vendor}
use Rattle.unit_paths.specs.declared.slot.Slot.{Slot}
use Rattle.unit_paths.specs.declared.slot.Slot.TheVariants as slots
use Rattle.unit_paths.proofs.Slots.{place_all, preset_all}
use Rattle.disk.specs.Partials.{IsIn, area_of}

no_some : {X P : Type 0} (x : X) → None ≡ Some x → P
no_some x h = cc

some_is : {X : Type 0} {x y : X} → Some x ≡ Some y → x ≡ y
some_is h = cc

-- the place of a place's directory of units is that place
own_place : (place : Place) → place_of (unit_directory place) ≡ Some place
unfolding place_of unit_directory
own_place Etc = refl
own_place Run = refl
own_place Local = refl
own_place Vendor = refl

place_is : (dir : List ℕ) (place : Place) → place_of dir ≡ Some place → dir ≡ unit_directory place
place_is dir place is =
    place_all (λ dir. place_of dir ≡ Some place → dir ≡ unit_directory place) dir (ap is_some is) (λ own here. ap unit_directory (some_is (sym (own_place own) ∙ here))) is

-- a directory of presets is one of the three
preset_is : (dir : List ℕ) → is_some (preset_place_of dir) ≡ true → (place : Place) × Contains preset_places place × (dir ≡ preset_directory place)
preset_is dir some =
    preset_all (λ dir. (place : Place) × Contains preset_places place × (dir ≡ preset_directory place)) dir some
    (Etc, (0, omega arith, refl), refl) (Run, (1, omega arith, refl), refl) (Vendor, (2, omega arith, refl), refl)

-- the directory that contains the slots of each kind
abbrev pub IsDirectoryOf : Slot → List ℕ → Type 0
IsDirectoryOf (slots.Unit place) directory = directory ≡ unit_directory place
IsDirectoryOf (slots.Wants place) directory = parent directory ≡ unit_directory place
IsDirectoryOf (slots.Requires place) directory = parent directory ≡ unit_directory place
IsDirectoryOf (slots.Upholds place) directory = parent directory ≡ unit_directory place
IsDirectoryOf (slots.Preset place) directory = (one : Place) × Contains preset_places one × (directory ≡ preset_directory one)

dependency_directory_is : (directory : List ℕ) (place : Option Place) (slot : Slot) → place_of (parent directory) ≡ place → dependency_slots_in place (name_at directory) ≡ Some slot → IsDirectoryOf slot directory
unfolding dependency_directory_slots
dependency_directory_is directory None slot is h = no_some slot h
dependency_directory_is directory (Some place) slot is h =
    by_ending (is_dependency_directory (codes ".wants") (name_at directory)) (is_dependency_directory (codes ".requires") (name_at directory)) (is_dependency_directory (codes ".upholds") (name_at directory)) h
  where
    by_ending : (wants requires upholds : Bool)
        → cond wants (Some (slots.Wants place)) (cond requires (Some (slots.Requires place)) (cond upholds (Some (slots.Upholds place)) None)) ≡ Some slot → IsDirectoryOf slot directory
    by_ending true requires upholds h = subst (λ s. IsDirectoryOf s directory) (some_is h) (place_is (parent directory) place is)
    by_ending false true upholds h = subst (λ s. IsDirectoryOf s directory) (some_is h) (place_is (parent directory) place is)
    by_ending false false true h = subst (λ s. IsDirectoryOf s directory) (some_is h) (place_is (parent directory) place is)
    by_ending false false false h = no_some slot h

directory_is : (directory : List ℕ) (slot : Slot) → slots_in directory ≡ Some slot → IsDirectoryOf slot directory
unfolding slots_in
directory_is directory slot h = by_first (place_of directory) refl (preset_place_of directory) refl h
  where
    by_first : (place : Option Place) → place_of directory ≡ place → (preset : Option Place) → preset_place_of directory ≡ preset
        → first_directory place preset (dependency_slots_in (place_of (parent directory)) (name_at directory)) ≡ Some slot → IsDirectoryOf slot directory
    by_first (Some place) is preset preset_of h = subst (λ s. IsDirectoryOf s directory) (some_is h) (place_is directory place is)
    by_first None is (Some preset) preset_of h = subst (λ s. IsDirectoryOf s directory) (some_is h) (preset_is directory (ap is_some preset_of))
    by_first None is None preset_of h = dependency_directory_is directory (place_of (parent directory)) slot refl h

named_is : (found : Option Slot) (name : List ℕ) (slot : Slot) → named_slot found name ≡ Some slot → found ≡ Some slot
named_is None name slot h = no_some slot h
named_is (Some other) name slot h = by_name (is_name_for other name) h
  where
    by_name : (b : Bool) → cond b (Some other) None ≡ Some slot → Some other ≡ Some slot
    by_name true h = h
    by_name false h = no_some slot h

pub slot_directory_is : (path : List ℕ) (slot : Slot) → slot_of path ≡ Some slot → IsDirectoryOf slot (parent path)
unfolding slot_of
slot_directory_is path slot h = directory_is (parent path) slot (named_is (slots_in (parent path)) (name_at path) slot h)

-- a slot is in the area of its kind
pub slot_is_in : (path : List ℕ) (slot : Slot) → slot_of path ≡ Some slot → IsIn (area_of slot) path
slot_is_in path (slots.Unit place) is = (ap is_some is, inl (slot_directory_is path (slots.Unit place) is))
slot_is_in path (slots.Wants place) is = (ap is_some is, slot_directory_is path (slots.Wants place) is)
slot_is_in path (slots.Requires place) is = (ap is_some is, slot_directory_is path (slots.Requires place) is)
slot_is_in path (slots.Upholds place) is = (ap is_some is, slot_directory_is path (slots.Upholds place) is)
slot_is_in path (slots.Preset place) is = let there = slot_directory_is path (slots.Preset place) is in (there.0, there.1, (ap is_some is, there.2))
