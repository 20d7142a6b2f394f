-- A path of bad shape has a slot above it or beneath it.
use Rattle.std.proofs.Common.{◌≡◌, ℕ, Bool, true, false, ◌||◌, cond, List, [], ◌∷◌, ◌++◌, Option, Some, None, refl, sym, ◌∙◌, ap, append_assoc, inl, inr}
use Rattle.std.specs.Prelude.{is_some, codes}
use Rattle.std.specs.List.{list_any}
use Rattle.std.proofs.lemmas.Bool.{cases_Bool, false≢true, or_cases, or_left, or_right}
use Rattle.unit_paths.specs.declared.place.Place.{Place}
use Rattle.unit_paths.specs.declared.place.Place.TheVariants.{Etc, Run, Local, Vendor}
use Rattle.unit_paths.specs.declared.slot.Slot.{Slot}
use Rattle.unit_paths.specs.declared.slot.Slot.TheVariants as slots
use Rattle.unit_paths.specs.Paths.{is_slash, parent, name_at}
use Rattle.unit_paths.specs.Places.{unit_directory, places, preset_directory, place_of, preset_place_of}
use Rattle.unit_paths.specs.Shape.{is_close, is_beneath, is_bad_shape, is_under_slot, is_over_units, is_over_presets}
use Rattle.unit_name.specs.Name.{name_fault, part_fault, prefix_of, stem_of, type_of, type_named, suffix_of}
use Rattle.unit_name.specs.Parts.{type_text}
use Rattle.unit_paths.specs.Slots.{slots_in, is_preset_name, is_name_for, named_slot, slot_of, is_slot}
use Rattle.unit_paths.specs.Laws.{BadShapeIsCloseToSlot}
use Rattle.unit_paths.proofs.Lying.{beneath_goes_on, under_is_beneath_slot}
use Rattle.unit_paths.proofs.Shapes.{close_sym}
use Rattle.unit_paths.proofs.Slashes.{parent-seam, name-seam}
use Rattle.unit_paths.proofs.Slots.{slot_apart}

-- a slot that is close to the path
Near : List ℕ → Type 0
Near path = (slot : List ℕ) × (is_slot slot ≡ true) × (is_close path slot ≡ true)

beneath_it : (path slot : List ℕ) → is_slot slot ≡ true → is_beneath slot path ≡ true → Near path
unfolding Near is_close
beneath_it path slot is beneath = (slot, is, or_right (is_beneath path slot) (is_beneath slot path) beneath)

above_it : (path slot : List ℕ) → is_slot slot ≡ true → is_beneath path slot ≡ true → Near path
unfolding Near is_close
above_it path slot is beneath = (slot, is, or_left (is_beneath path slot) (is_beneath slot path) beneath)

-- a path beneath another stays beneath it with more text at its end
further : (path dir more : List ℕ) → is_beneath dir path ≡ true → is_beneath (dir ++ more) path ≡ true
further path dir more h =
    let parts = (beneath_goes_on dir path).0 h in
    (beneath_goes_on (dir ++ more) path).1 (parts.0 ++ more, ap (λ d. d ++ more) parts.1 ∙ append_assoc path (47 ∷ parts.0) more)

-- a suitable name for each kind of slot
name_for : Slot → List ℕ
name_for (slots.Unit place) = codes "a.service"
name_for (slots.Wants place) = codes "a.service"
name_for (slots.Requires place) = codes "a.service"
name_for (slots.Upholds place) = codes "a.service"
name_for (slots.Preset place) = codes "a.preset"

is_name : (slot : Slot) → is_name_for slot (name_for slot) ≡ true
unfolding name_for name_fault part_fault prefix_of stem_of type_of type_named type_text suffix_of is_preset_name
is_name (slots.Unit place) = refl
is_name (slots.Wants place) = refl
is_name (slots.Requires place) = refl
is_name (slots.Upholds place) = refl
is_name (slots.Preset place) = refl

no_slash_in : (slot : Slot) → list_any is_slash (name_for slot) ≡ false
unfolding name_for
no_slash_in (slots.Unit place) = refl
no_slash_in (slots.Wants place) = refl
no_slash_in (slots.Requires place) = refl
no_slash_in (slots.Upholds place) = refl
no_slash_in (slots.Preset place) = refl

-- a slot in a directory that contains slots
slot_in : (dir : List ℕ) (slot : Slot) → slots_in dir ≡ Some slot → is_slot (dir ++ 47 ∷ name_for slot) ≡ true
unfolding slot_of
slot_in dir slot h =
    let name = name_for slot in
    ap (λ d. is_some (named_slot (slots_in d) (name_at (dir ++ 47 ∷ name)))) (parent-seam dir name (no_slash_in slot))
    ∙ ap (λ o. is_some (named_slot o (name_at (dir ++ 47 ∷ name)))) h
    ∙ ap (λ n. is_some (named_slot (Some slot) n)) (name-seam dir name (no_slash_in slot))
    ∙ ap (λ b. is_some (cond b (Some slot) None)) (is_name slot)

near_in : (path : List ℕ) (o : Option Slot) → slots_in path ≡ o → is_some o ≡ true → Near path
near_in path None at h = absurd (false≢true h)
near_in path (Some slot) at h =
    beneath_it path (path ++ 47 ∷ name_for slot) (slot_in path slot at) ((beneath_goes_on (path ++ 47 ∷ name_for slot) path).1 (name_for slot, refl))

-- a directory that contains slots, beneath the path
near_over : (path dir : List ℕ) (slot : Slot) → slots_in dir ≡ Some slot → is_beneath dir path ≡ true → Near path
near_over path dir slot at beneath = beneath_it path (dir ++ 47 ∷ name_for slot) (slot_in dir slot at) (further path dir (47 ∷ name_for slot) beneath)

unit_directories : (place : Place) → slots_in (unit_directory place) ≡ Some (slots.Unit place)
unfolding unit_directory slots_in place_of preset_place_of parent name_at
unit_directories Etc = refl
unit_directories Run = refl
unit_directories Local = refl
unit_directories Vendor = refl

preset_directories : (slots_in (preset_directory Etc) ≡ Some (slots.Preset Etc)) × (slots_in (preset_directory Run) ≡ Some (slots.Preset Run)) × (slots_in (preset_directory Vendor) ≡ Some (slots.Preset Vendor))
unfolding unit_directory slots_in place_of preset_place_of parent name_at
preset_directories = (refl, refl, refl)

any_parts : (p : Place → Bool) → list_any p places ≡ true → (place : Place) × (p place ≡ true)
any_parts p h = elim (or_cases (p Etc) (p Run || (p Local || (p Vendor || false))) h) [
  | inl etc ↦ (Etc, etc)
  | inr others ↦ elim (or_cases (p Run) (p Local || (p Vendor || false)) others) [
    | inl run ↦ (Run, run)
    | inr more ↦ elim (or_cases (p Local) (p Vendor || false) more) [
      | inl local ↦ (Local, local)
      | inr last ↦ elim (or_cases (p Vendor) false last) [
        | inl vendor ↦ (Vendor, vendor)
        | inr none ↦ absurd (false≢true none)
      ]
    ]
  ]
]

over_units : (path : List ℕ) → is_over_units path ≡ true → Near path
over_units path h = by_place (any_parts (λ place. is_beneath (unit_directory place) path) h)
  where
    by_place : (place : Place) × (is_beneath (unit_directory place) path ≡ true) → Near path
    by_place (place, beneath) = near_over path (unit_directory place) (slots.Unit place) (unit_directories place) beneath

over_presets : (path : List ℕ) → is_over_presets path ≡ true → Near path
over_presets path h = elim (or_cases (is_beneath (preset_directory Etc) path) (is_beneath (preset_directory Run) path || (is_beneath (preset_directory Vendor) path || false)) h) [
  | inl etc ↦ near_over path (preset_directory Etc) (slots.Preset Etc) preset_directories.0 etc
  | inr others ↦ elim (or_cases (is_beneath (preset_directory Run) path) (is_beneath (preset_directory Vendor) path || false) others) [
    | inl run ↦ near_over path (preset_directory Run) (slots.Preset Run) preset_directories.1 run
    | inr last ↦ elim (or_cases (is_beneath (preset_directory Vendor) path) false last) [
      | inl vendor ↦ near_over path (preset_directory Vendor) (slots.Preset Vendor) preset_directories.2 vendor
      | inr none ↦ absurd (false≢true none)
    ]
  ]
]

near : (path : List ℕ) → is_bad_shape path ≡ true → Near path
unfolding is_bad_shape
near path h = elim (or_cases (is_under_slot [] path) (is_some (slots_in path) || (is_over_units path || is_over_presets path)) h) [
  | inl under ↦ (let found = (under_is_beneath_slot path).0 under in above_it path found.0 found.1 found.2)
  | inr others ↦ elim (or_cases (is_some (slots_in path)) (is_over_units path || is_over_presets path) others) [
    | inl here ↦ near_in path (slots_in path) refl here
    | inr over ↦ elim (or_cases (is_over_units path) (is_over_presets path) over) [
      | inl units ↦ over_units path units
      | inr presets ↦ over_presets path presets
    ]
  ]
]

apart : (path slot : List ℕ) → is_slot slot ≡ true → is_close path slot ≡ true → is_bad_shape path ≡ true
apart path slot is close = elim (cases_Bool (is_bad_shape path)) [
  | inl bad ↦ bad
  | inr good ↦ absurd (false≢true (sym (slot_apart slot path is good) ∙ close_sym slot path ∙ close))
]

pub close_to_slot : BadShapeIsCloseToSlot
unfolding Near
close_to_slot path = (near path, λ found. apart path found.0 found.1 found.2)
