-- The slot of a dependency in a directory is a path and a slot.
use Rattle.std.proofs.Common.{◌≡◌, ℕ, ◌-◌, ◌<◌, ◌≤◌, true, false, List, [], ◌∷◌, ◌++◌, length, take, Option, Some, None, refl, sym, ◌∙◌, ap, arith, inl, inr, length-append}
use Rattle.std.specs.Prelude.{is_some, nat_eq, nat_le, nat_lt, codes}
use Rattle.std.specs.List.{list_all, list_any, ends_with}
use Rattle.std.proofs.lemmas.Bool.{cases_Bool, and_from, lt-ltb, le-leb}
use Rattle.std.proofs.lemmas.Bool.Decides.{Decides-eqb}
use Rattle.std.proofs.lemmas.List.Folds.{list_all-append}
use Rattle.std.proofs.lemmas.Slice.Eq.{ends_is}
use Rattle.std.proofs.Math.Seq.{take-append_seam}
use Rattle.unit_name.specs.Name.{is_dot, is_unit_name, suffix_of}
use Rattle.unit_name.proofs.Names.{suffix_of-seam}
use Rattle.unit_paths.specs.declared.slot.Dependency.{Dependency}
use Rattle.unit_paths.specs.declared.slot.Dependency.TheVariants.{Wants, Requires, Upholds}
use Rattle.unit_paths.specs.declared.place.Place.{Place}
use Rattle.unit_paths.specs.declared.place.Place.TheVariants.{Etc, Run, Local, Vendor}
use Rattle.unit_paths.specs.Paths.{is_part, is_path, is_text_byte, parent, name_at}
use Rattle.unit_paths.specs.Canonical.{fits}
use Rattle.unit_paths.specs.Places.{unit_directory, preset_directory, place_of, preset_place_of}
use Rattle.unit_paths.specs.Slots.{unit_slot, dependency_ending, dependency_slot, slot_of_dependency, is_dependency_directory, dependency_directory_slots, slots_in, named_slot, slot_of}
use Rattle.unit_paths.proofs.Slashes.{is_part_byte, front-part, front-path, parent-seam, name-seam}
use Rattle.unit_paths.proofs.Slots.{place_all, preset_all}
use Rattle.unit_paths.proofs.UnitSlots.{name_facts, no_slash, directory_front, directory_short}

-- a name with an ending is a part of a path
ending_bytes : (dependency : Dependency) → list_all is_part_byte (dependency_ending dependency) ≡ true
unfolding dependency_ending is_text_byte
ending_bytes Wants = refl
ending_bytes Requires = refl
ending_bytes Upholds = refl

ending_short : (dependency : Dependency) → (2 < length (dependency_ending dependency)) × (length (dependency_ending dependency) ≤ 9)
unfolding dependency_ending
ending_short Wants = (omega arith, omega arith)
ending_short Requires = (omega arith, omega arith)
ending_short Upholds = (omega arith, omega arith)

long_part : (text : List ℕ) → 2 < length text → is_part text ≡ true
unfolding is_part
long_part [] long = absurd (omega arith)
long_part (a ∷ []) long = absurd (omega arith)
long_part (a ∷ b ∷ []) long = absurd (omega arith)
long_part (a ∷ b ∷ c ∷ rest) long = refl

-- a name with an ending is the name of a dependency directory
dependency_directory_name : (name ending : List ℕ) → is_unit_name name ≡ true → is_dependency_directory ending (name ++ ending) ≡ true
unfolding is_dependency_directory
dependency_directory_name name ending is =
    and_from _ _ ((ends_is Decides-eqb (name ++ ending) ending (ends_with nat_eq (name ++ ending) ending) refl).1 name refl)
    (ap is_unit_name (ap (λ n. take n (name ++ ending)) (front_length name ending) ∙ take-append_seam name ending) ∙ is)
  where
    front_length : (name ending : List ℕ) → length (name ++ ending) - length ending ≡ length name
    front_length name ending = omega (arith, length-append name ending)

-- a name with one ending doesn't have another ending
not_other : (name word other : List ℕ) → list_any is_dot word ≡ false → list_any is_dot other ≡ false → (word ≡ other → ⊥) → is_dependency_directory (46 ∷ other) (name ++ 46 ∷ word) ≡ false
unfolding is_dependency_directory
not_other name word other plain other_plain differ = elim (cases_Bool (ends_with nat_eq (name ++ 46 ∷ word) (46 ∷ other))) [
  | inl ends ↦ absurd (
      let front = take (length (name ++ 46 ∷ word) - length (46 ∷ other)) (name ++ 46 ∷ word) in
      let is : name ++ 46 ∷ word ≡ front ++ 46 ∷ other = (ends_is Decides-eqb (name ++ 46 ∷ word) (46 ∷ other) _ refl).0 ends in
      differ (sym (suffix_of-seam name word plain) ∙ ap suffix_of is ∙ suffix_of-seam front other other_plain))
  | inr off ↦ rw off refl
]

requires_not_wants : (name : List ℕ) → is_dependency_directory (codes ".wants") (name ++ codes ".requires") ≡ false
requires_not_wants name = not_other name (codes "requires") (codes "wants") refl refl (λ same. cc)

upholds_not_wants : (name : List ℕ) → is_dependency_directory (codes ".wants") (name ++ codes ".upholds") ≡ false
upholds_not_wants name = not_other name (codes "upholds") (codes "wants") refl refl (λ same. cc)

upholds_not_requires : (name : List ℕ) → is_dependency_directory (codes ".requires") (name ++ codes ".upholds") ≡ false
upholds_not_requires name = not_other name (codes "upholds") (codes "requires") refl refl (λ same. cc)

dependency_directory_slots_is : (place : Place) (dependency : Dependency) (name : List ℕ) → is_unit_name name ≡ true → dependency_directory_slots place (name ++ dependency_ending dependency) ≡ Some (slot_of_dependency place dependency)
unfolding dependency_directory_slots dependency_ending
dependency_directory_slots_is place Wants name is = rw (dependency_directory_name name (codes ".wants") is) refl
dependency_directory_slots_is place Requires name is = rw (requires_not_wants name, dependency_directory_name name (codes ".requires") is) refl
dependency_directory_slots_is place Upholds name is = rw (upholds_not_wants name, upholds_not_requires name, dependency_directory_name name (codes ".upholds") is) refl

-- no directory of units or presets lies directly in one of units
none_in_units : (place : Place) → place_of (parent (unit_directory place)) ≡ None
unfolding unit_directory place_of parent
none_in_units Etc = refl
none_in_units Run = refl
none_in_units Local = refl
none_in_units Vendor = refl

no_preset_in_units : (place : Place) → place_of (parent (preset_directory place)) ≡ None
unfolding unit_directory place_of parent
no_preset_in_units Etc = refl
no_preset_in_units Run = refl
no_preset_in_units Local = refl
no_preset_in_units Vendor = refl

own_place : (place : Place) → place_of (unit_directory place) ≡ Some place
unfolding unit_directory place_of
own_place Etc = refl
own_place Run = refl
own_place Local = refl
own_place Vendor = refl

no_place : {X : Type 0} (o : Option X) → (is_some o ≡ true → ⊥) → o ≡ None
no_place None none = refl
no_place (Some x) none = absurd (none refl)

-- which slots a dependency directory contains
slots_in_dependency_directory : (dir : List ℕ) (place : Place) → parent dir ≡ unit_directory place → slots_in dir ≡ dependency_directory_slots place (name_at dir)
unfolding slots_in
slots_in_dependency_directory dir place up =
    let there : place_of (parent dir) ≡ Some place = ap place_of up ∙ own_place place in
    let unit : place_of dir ≡ None = no_place (place_of dir) (λ some. place_all (λ d. place_of (parent d) ≡ Some place → ⊥) dir some (λ other is. clash place (sym (none_in_units other) ∙ is)) there) in
    let preset : preset_place_of dir ≡ None = no_place (preset_place_of dir) (λ some. preset_all (λ d. place_of (parent d) ≡ Some place → ⊥) dir some (λ is. clash place (sym (no_preset_in_units Etc) ∙ is)) (λ is. clash place (sym (no_preset_in_units Run) ∙ is)) (λ is. clash place (sym (no_preset_in_units Vendor) ∙ is)) there) in
    rw (unit, preset, there) refl
  where
    clash : (place : Place) → None ≡ Some place → ⊥
    clash place h = cc

module _ (place : Place) (dependency : Dependency) (of name : List ℕ) (of_is : is_unit_name of ≡ true) (name_is : is_unit_name name ≡ true) where
  abbrev directory_name : List ℕ
  directory_name = of ++ dependency_ending dependency

  abbrev dir : List ℕ
  dir = unit_slot place directory_name

  directory_bytes : list_all is_part_byte directory_name ≡ true
  directory_bytes = list_all-append is_part_byte of (dependency_ending dependency) ∙ and_from _ _ (name_facts of of_is).bytes (ending_bytes dependency)

  pub dependency_slot_path : is_path (dependency_slot place dependency of name) ≡ true
  dependency_slot_path =
      let of_facts = name_facts of of_is in
      let facts = name_facts name name_is in
      let part = long_part directory_name (omega (arith, length-append of (dependency_ending dependency), (ending_short dependency).0)) in
      let front = front-part dir name (front-part (unit_directory place) directory_name (directory_front place) directory_bytes part) facts.bytes facts.part in
      front-path (dependency_slot place dependency of name) front
      ∙ fits_short (dependency_slot place dependency of name)
      (omega (arith, length-append dir (47 ∷ name)))
      (omega (arith, length-append dir (47 ∷ name), length-append (unit_directory place) (47 ∷ directory_name), length-append of (dependency_ending dependency), (ending_short dependency).1, directory_short place, of_facts.short, facts.short))
    where
      fits_short : (text : List ℕ) → 0 < length text → length text ≤ 4095 → fits text ≡ true
      fits_short text some short = and_from (nat_lt 0 (length text)) (nat_le (length text) 4095) (lt-ltb 0 (length text) some) (le-leb (length text) 4095 short)

  pub dependency_slot_is : slot_of (dependency_slot place dependency of name) ≡ Some (slot_of_dependency place dependency)
  unfolding slot_of
  dependency_slot_is =
      let none = no_slash name (name_facts name name_is).bytes in
      let directory_none = no_slash directory_name directory_bytes in
      let path = dependency_slot place dependency of name in
      ap (λ d. named_slot (slots_in d) (name_at path)) (parent-seam dir name none)
      ∙ ap (λ n. named_slot (slots_in dir) n) (name-seam dir name none)
      ∙ ap (λ o. named_slot o name) (slots_in_dependency_directory dir place (parent-seam (unit_directory place) directory_name directory_none) ∙ ap (dependency_directory_slots place) (name-seam (unit_directory place) directory_name directory_none) ∙ dependency_directory_slots_is place dependency of of_is)
      ∙ named dependency
    where
      named : (dependency : Dependency) → named_slot (Some (slot_of_dependency place dependency)) name ≡ Some (slot_of_dependency place dependency)
      named Wants = rw name_is refl
      named Requires = rw name_is refl
      named Upholds = rw name_is refl
