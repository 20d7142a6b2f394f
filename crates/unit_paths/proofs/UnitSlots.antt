-- The slot of a unit in a directory is a path and a slot.
use Rattle.std.proofs.Common.{◌≡◌, ℕ, ◌<◌, ◌≤◌, Bool, true, false, cond, ◌&&◌, not, List, [], ◌∷◌, length, Option, Some, None, refl, sym, ◌∙◌, ap, arith, subst, inl, inr}
use Rattle.std.specs.Prelude.{is_none, ◌==◌, nat_le, nat_lt}
use Rattle.std.specs.List.{list_all, list_any}
use Rattle.std.proofs.lemmas.Bool.{cases_Bool, and_parts, and_from, eqb-true, not-true, false≢true, lt-ltb, le-leb}
use Rattle.std.proofs.lemmas.Bool.Decides.{nat_tests}
use Rattle.std.proofs.lemmas.List.{length-append}
use Rattle.unit_name.specs.Parts.{is_name_byte, type_text}
use Rattle.unit_name.specs.Name.{name_fault, is_unit_name, part_fault, prefix_of, stem_of, suffix_of, type_of, type_named}
use Rattle.unit_name.proofs.Names.{cond_none}
use Rattle.unit_paths.specs.declared.place.Place.{Place}
use Rattle.unit_paths.specs.declared.place.Place.TheVariants.{Etc, Run, Local, Vendor}
use Rattle.unit_paths.specs.declared.slot.Slot.TheVariants as slots
use Rattle.unit_paths.specs.Paths.{is_slash, is_part, is_text_byte, is_path, parent, name_at}
use Rattle.unit_paths.specs.Canonical.{fits}
use Rattle.unit_paths.specs.Places.{unit_directory, place_of, preset_place_of}
use Rattle.unit_paths.specs.Slots.{unit_slot, slots_in, dependency_directory_slots, slot_of, named_slot}
use Rattle.unit_paths.proofs.Slashes.{is_part_byte, is_front, front-part, front-path, parent-seam, name-seam}

no_name_byte : (x b : ℕ) → is_name_byte x ≡ false → is_name_byte b ≡ true → (b == x) ≡ false
no_name_byte x b off on = elim (cases_Bool (b == x)) [
  | inl same ↦ absurd (false≢true (sym off ∙ subst (λ k. is_name_byte k ≡ true) (eqb-true b x same) on))
  | inr other ↦ other
]

-- a byte of a name is allowed in a part of a path
part_byte : (b : ℕ) → is_name_byte b ≡ true → is_part_byte b ≡ true
unfolding is_text_byte
part_byte b h = rw (no_name_byte 0 b refl h, no_name_byte 9 b refl h, no_name_byte 10 b refl h, no_name_byte 47 b refl h) refl

part_bytes : (name : List ℕ) → list_all is_name_byte name ≡ true → list_all is_part_byte name ≡ true
part_bytes [] h = refl
part_bytes (b ∷ bs) h = let x = and_parts (is_name_byte b) (list_all is_name_byte bs) h in and_from _ _ (part_byte b x.0) (part_bytes bs x.1)

pub no_slash : (name : List ℕ) → list_all is_part_byte name ≡ true → list_any is_slash name ≡ false
no_slash [] h = refl
no_slash (b ∷ bs) h =
    let x = and_parts (is_part_byte b) (list_all is_part_byte bs) h in
    rw (not-true (is_slash b) (and_parts (is_text_byte b) (not (is_slash b)) x.0).1) (no_slash bs x.1)

-- neither the empty text nor . nor .. is a name
no_dots : (is_unit_name [] ≡ false) × (is_unit_name (46 ∷ []) ≡ false) × (is_unit_name (46 ∷ 46 ∷ []) ≡ false)
unfolding name_fault part_fault prefix_of stem_of type_of type_named suffix_of type_text
no_dots = (refl, refl, refl)

name_part : (name : List ℕ) → is_unit_name name ≡ true → is_part name ≡ true
unfolding is_part
name_part [] h = absurd (false≢true (sym no_dots.0 ∙ h))
name_part (a ∷ []) h = elim (cases_Bool (a == 46)) [
  | inl dot ↦ absurd (false≢true (sym no_dots.1 ∙ subst (λ (k : ℕ). is_unit_name (k ∷ []) ≡ true) (eqb-true a 46 dot) h))
  | inr other ↦ ap not other
]
name_part (a ∷ b ∷ []) h = elim (cases_Bool (a == 46 && b == 46)) [
  | inl dots ↦ absurd (
      let both = and_parts (a == 46) (b == 46) dots in
      let first = subst (λ (k : ℕ). is_unit_name (k ∷ b ∷ []) ≡ true) (eqb-true a 46 both.0) h in
      false≢true (sym no_dots.2 ∙ subst (λ (k : ℕ). is_unit_name (46 ∷ k ∷ []) ≡ true) (eqb-true b 46 both.1) first))
  | inr other ↦ ap not other
]
name_part (a ∷ b ∷ c ∷ rest) h = refl

pub record NameFacts (name : List ℕ) : Type 0 where
  pub short : length name ≤ 255
  pub bytes : list_all is_part_byte name ≡ true
  pub part : is_part name ≡ true

none_of : {F : Type 0} (o : Option F) → is_none o ≡ true → o ≡ None
none_of None h = refl
none_of (Some fault) h = absurd (false≢true h)

pub name_facts : (name : List ℕ) → is_unit_name name ≡ true → NameFacts name
unfolding name_fault
name_facts name h =
    let first = cond_none (nat_lt 255 (length name)) _ _ (none_of (name_fault name) h) in
    let second = cond_none (not (list_all is_name_byte name)) _ _ first.1 in
    record { short = not_less 255 (length name) first.0; bytes = part_bytes name (not_false (list_all is_name_byte name) second.0); part = name_part name h }
  where
    not_less : (n k : ℕ) → nat_lt n k ≡ false → k ≤ n
    not_less n k h = grind (arith, nat_tests)

    not_false : (b : Bool) → not b ≡ false → b ≡ true
    not_false true h = refl
    not_false false h = absurd (false≢true (sym h))

pub directory_front : (place : Place) → is_front (unit_directory place) ≡ true
unfolding unit_directory is_text_byte is_part
directory_front Etc = refl
directory_front Run = refl
directory_front Local = refl
directory_front Vendor = refl

pub directory_short : (place : Place) → length (unit_directory place) ≤ 30
unfolding unit_directory
directory_short Etc = omega arith
directory_short Run = omega arith
directory_short Local = omega arith
directory_short Vendor = omega arith

directory_slots : (place : Place) → slots_in (unit_directory place) ≡ Some (slots.Unit place)
unfolding unit_directory slots_in place_of preset_place_of parent name_at dependency_directory_slots
directory_slots Etc = refl
directory_slots Run = refl
directory_slots Local = refl
directory_slots Vendor = refl

pub unit_slot_path : (place : Place) (name : List ℕ) → is_unit_name name ≡ true → is_path (unit_slot place name) ≡ true
unit_slot_path place name is =
    let facts = name_facts name is in
    let dir = unit_directory place in
    front-path (unit_slot place name) (front-part dir name (directory_front place) facts.bytes facts.part)
    ∙ fits_short (unit_slot place name) (omega (arith, length-append dir (47 ∷ name))) (omega (arith, length-append dir (47 ∷ name), directory_short place, facts.short))
  where
    fits_short : (text : List ℕ) → 0 < length text → length text ≤ 4095 → fits text ≡ true
    fits_short text some short = and_from (nat_lt 0 (length text)) (nat_le (length text) 4095) (lt-ltb 0 (length text) some) (le-leb (length text) 4095 short)

pub unit_slot_is : (place : Place) (name : List ℕ) → is_unit_name name ≡ true → slot_of (unit_slot place name) ≡ Some (slots.Unit place)
unfolding slot_of
unit_slot_is place name is =
    let none = no_slash name (name_facts name is).bytes in
    let dir = unit_directory place in
    ap (λ (d : List ℕ). named_slot (slots_in d) (name_at (unit_slot place name))) (parent-seam dir name none)
    ∙ ap (λ o. named_slot o (name_at (unit_slot place name))) (directory_slots place)
    ∙ ap (named_slot (Some (slots.Unit place))) (name-seam dir name none)
    ∙ rw is refl

-- if a text is a path, the result is this path
pub found_path : (text path : List ℕ) (o : Option (List ℕ)) → text ≡ path → o ≡ cond (is_path text) (Some text) None → is_path path ≡ true → o ≡ Some path
found_path text path o same is good = is ∙ ap (λ (t : List ℕ). cond (is_path t) (Some t) None) same ∙ ap (λ b. cond b (Some path) None) good

abbrev pub text_of : Option (List ℕ) → List ℕ
text_of None = []
text_of (Some text) = text
