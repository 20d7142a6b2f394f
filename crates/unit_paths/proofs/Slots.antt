-- A slot is never beneath another slot, and never a directory that contains slots.
use Rattle.std.proofs.Common.{◌≡◌, ℕ, Bool, true, false, ◌&&◌, ◌||◌, List, [], ◌∷◌, ◌++◌, length, take, Option, Some, None, refl, sym, ◌∙◌, ap, append_assoc, append-nil, inl, inr, ◌⊎◌, cond, subst}
use Rattle.std.specs.Prelude.{is_some, codes, is_none, nat_eq, ◌-◌}
use Rattle.std.specs.Str.{bytes_eq}
use Rattle.std.proofs.lemmas.Slice.Eq.{bytes_eq-Decides, ends_is}
use Rattle.std.proofs.lemmas.Bool.Decides.{Decides-eqb}
use Rattle.std.specs.List.{list_any, ends_with}
use Rattle.std.proofs.lemmas.Bool.{cases_Bool, false≢true, or_cases, and_parts, eqb-true}
use Rattle.unit_name.specs.Name.{is_dot, suffix_of, type_named, type_of, name_fault, is_unit_name}
use Rattle.unit_name.specs.Parts.{type_text}
use Rattle.unit_name.specs.declared.fault.NameFault.{NameFault}
use Rattle.unit_name.proofs.Names.{name_from_no_fault, parts_read, suffix_of-seam}
use Rattle.unit_paths.specs.declared.place.Place.{Place}
use Rattle.unit_paths.specs.declared.place.Place.TheVariants.{Etc, Run, Local, Vendor}
use Rattle.unit_paths.specs.declared.slot.Slot.{Slot}
use Rattle.unit_paths.specs.declared.slot.Slot.TheVariants.{Upholds}
use Rattle.unit_paths.specs.Paths.{is_slash, parent, name_at}
use Rattle.unit_paths.specs.Canonical.{begins_with_slash}
use Rattle.unit_paths.specs.Places.{unit_directory, places, preset_directory, preset_places, place_of, preset_place_of}
use Rattle.unit_paths.specs.Slots.{is_dependency_directory, dependency_directory_slots, dependency_slots_in, first_directory, slots_in, named_slot, slot_of, is_slot}
use Rattle.unit_paths.specs.Shape.{is_close, is_beneath, is_bad_shape, is_under_slot, is_over_units, is_over_presets}
use Rattle.unit_paths.proofs.Shapes.{beneath-parts, beneath-after}
use Rattle.unit_paths.proofs.Unders.{under-slot}
use Rattle.unit_paths.proofs.Aboves.{beneath-slash, beneath-parent}

or_right : (x y : Bool) → y ≡ true → (x || y) ≡ true
or_right true y e = refl
or_right false y e = e

or_left : (x y : Bool) → x ≡ true → (x || y) ≡ true
or_left x y e = rw e refl

same_bytes : (xs ys : List ℕ) → bytes_eq xs ys ≡ true → xs ≡ ys
same_bytes xs ys h = (bytes_eq-Decides xs ys).0 h

-- a slot's directory contains slots
named_some : (o : Option Slot) (name : List ℕ) → is_some (named_slot o name) ≡ true → is_some o ≡ true
named_some None name h = absurd (false≢true h)
named_some (Some slot) name h = refl

slot_is : (slot : List ℕ) → is_slot slot ≡ true → is_some (named_slot (slots_in (parent slot)) (name_at slot)) ≡ true
unfolding slot_of
slot_is slot h = h

-- a path above another is its parent or above that
beneath-any : (path above : List ℕ) → is_beneath path above ≡ true → list_any is_slash path ≡ true
beneath-any path above h = elim (cases_Bool (list_any is_slash path)) [
  | inl some ↦ some
  | inr none ↦ absurd (false≢true (sym (beneath-slash path above none) ∙ h))
]

parent_over : (path above : List ℕ) → is_beneath path above ≡ true → (parent path ≡ above) ⊎ (is_beneath (parent path) above ≡ true)
parent_over path above h = elim (or_cases (bytes_eq above (parent path)) (is_beneath (parent path) above) (sym (beneath-parent path above (beneath-any path above h)) ∙ h)) [
  | inl same ↦ inl (sym (same_bytes above (parent path) same))
  | inr over ↦ inr over
]

-- above a directory of units or presets
pick : (b : Bool) (place : Place) (o : Option Place) → is_some (cond b (Some place) o) ≡ true → (b ≡ true) ⊎ (is_some o ≡ true)
pick true place o h = inl refl
pick false place o h = inr h

-- a property of each directory of units
pub place_all : (P : List ℕ → Type 0) (dir : List ℕ) → is_some (place_of dir) ≡ true → ((place : Place) → P (unit_directory place)) → P dir
unfolding place_of
place_all P dir some all = elim (pick (bytes_eq dir (unit_directory Etc)) _ _ some) [
  | inl e ↦ subst P (sym (same_bytes dir _ e)) (all Etc)
  | inr rest ↦ elim (pick (bytes_eq dir (unit_directory Run)) _ _ rest) [
    | inl e ↦ subst P (sym (same_bytes dir _ e)) (all Run)
    | inr rest2 ↦ elim (pick (bytes_eq dir (unit_directory Local)) _ _ rest2) [
      | inl e ↦ subst P (sym (same_bytes dir _ e)) (all Local)
      | inr rest3 ↦ elim (pick (bytes_eq dir (unit_directory Vendor)) _ None rest3) [
        | inl e ↦ subst P (sym (same_bytes dir _ e)) (all Vendor)
        | inr none ↦ absurd (false≢true none)
      ]
    ]
  ]
]

-- and of each directory of presets
pub preset_all : (P : List ℕ → Type 0) (dir : List ℕ) → is_some (preset_place_of dir) ≡ true → P (preset_directory Etc) → P (preset_directory Run) → P (preset_directory Vendor) → P dir
unfolding preset_place_of
preset_all P dir some etc run vendor = elim (pick (bytes_eq dir (preset_directory Etc)) _ _ some) [
  | inl e ↦ subst P (sym (same_bytes dir _ e)) etc
  | inr rest ↦ elim (pick (bytes_eq dir (preset_directory Run)) _ _ rest) [
    | inl e ↦ subst P (sym (same_bytes dir _ e)) run
    | inr rest2 ↦ elim (pick (bytes_eq dir (preset_directory Vendor)) _ None rest2) [
      | inl e ↦ subst P (sym (same_bytes dir _ e)) vendor
      | inr none ↦ absurd (false≢true none)
    ]
  ]
]

any_place : (p : Place → Bool) (place : Place) → p place ≡ true → list_any p places ≡ true
any_place p Etc h = or_left _ _ h
any_place p Run h = or_right (p Etc) _ (or_left _ _ h)
any_place p Local h = or_right (p Etc) _ (or_right (p Run) _ (or_left _ _ h))
any_place p Vendor h = or_right (p Etc) _ (or_right (p Run) _ (or_right (p Local) _ (or_left _ _ h)))

place_over : (dir above : List ℕ) → is_some (place_of dir) ≡ true → is_beneath dir above ≡ true → is_over_units above ≡ true
place_over dir above some beneath =
    place_all (λ d. is_beneath d above ≡ true → is_over_units above ≡ true) dir some (λ place h. any_place (λ p. is_beneath (unit_directory p) above) place h) beneath

preset_over : (dir above : List ℕ) → is_some (preset_place_of dir) ≡ true → is_beneath dir above ≡ true → is_over_presets above ≡ true
preset_over dir above some beneath =
    preset_all (λ d. is_beneath d above ≡ true → is_over_presets above ≡ true) dir some
    (λ h. or_left _ _ h)
    (λ h. or_right (is_beneath (preset_directory Etc) above) _ (or_left _ _ h))
    (λ h. or_right (is_beneath (preset_directory Etc) above) _ (or_right (is_beneath (preset_directory Run) above) _ (or_left _ _ h))) beneath

dependency_place : (o : Option Place) (name : List ℕ) → is_some (dependency_slots_in o name) ≡ true → is_some o ≡ true
dependency_place None name h = absurd (false≢true h)
dependency_place (Some place) name h = refl

first_some : (place preset : Option Place) (other : Option Slot) → is_some place ≡ true → is_some (first_directory place preset other) ≡ true
first_some None preset other h = absurd (false≢true h)
first_some (Some place) preset other h = refl

first_cases : (place preset : Option Place) (other : Option Slot) → is_some (first_directory place preset other) ≡ true → (is_some place ≡ true) ⊎ ((is_some preset ≡ true) ⊎ (is_some other ≡ true))
first_cases (Some place) preset other h = inl refl
first_cases None (Some place) other h = inr (inl refl)
first_cases None None other h = inr (inr h)

slots_over : (dir above : List ℕ) → is_some (slots_in dir) ≡ true → is_beneath dir above ≡ true → (is_some (slots_in above) || (is_over_units above || is_over_presets above)) ≡ true
unfolding slots_in
slots_over dir above some beneath = elim (first_cases (place_of dir) (preset_place_of dir) (dependency_slots_in (place_of (parent dir)) (name_at dir)) some) [
  | inl place ↦ or_right _ _ (or_left _ _ (place_over dir above place beneath))
  | inr others ↦ elim others [
    | inl preset ↦ or_right _ _ (or_right _ _ (preset_over dir above preset beneath))
    | inr other ↦ (let place = dependency_place (place_of (parent dir)) (name_at dir) other in elim (parent_over dir above beneath) [
      | inl same ↦ or_left _ _ (first_some (place_of above) (preset_place_of above) (dependency_slots_in (place_of (parent above)) (name_at above)) (ap (λ d. is_some (place_of d)) (sym same) ∙ place))
      | inr over ↦ or_right _ _ (or_left _ _ (place_over (parent dir) above place over))
    ])
  ]
]

over_dir : (slot above : List ℕ) (o : Option Slot) → slots_in (parent slot) ≡ o → is_some (slots_in (parent slot)) ≡ true → is_beneath slot above ≡ true → (is_some (slots_in above) || (is_over_units above || is_over_presets above)) ≡ true
over_dir slot above o at some beneath = elim (parent_over slot above beneath) [
  | inl same ↦ or_left _ _ (ap (λ d. is_some (slots_in d)) (sym same) ∙ some)
  | inr over ↦ slots_over (parent slot) above some over
]

-- every path above a slot is of bad shape
slot_over : (slot above : List ℕ) → is_slot slot ≡ true → is_beneath slot above ≡ true → (is_some (slots_in above) || (is_over_units above || is_over_presets above)) ≡ true
slot_over slot above is beneath = over_dir slot above (slots_in (parent slot)) refl (named_some (slots_in (parent slot)) (name_at slot) (slot_is slot is)) beneath

slash_first : (rest : List ℕ) → begins_with_slash (47 ∷ rest) ≡ true
unfolding begins_with_slash
slash_first rest = refl

-- a slot above a path is what comes before one of its slashes
pub under_parts : (done path : List ℕ) → is_under_slot done path ≡ true → (front rest : List ℕ) × (path ≡ front ++ 47 ∷ rest) × (is_slot (done ++ front) ≡ true)
unfolding is_under_slot
under_parts done [] h = absurd (false≢true h)
under_parts done (b ∷ bs) h = elim (or_cases (is_slash b && is_slot done) (is_under_slot (done ++ b ∷ []) bs) h) [
  | inl here ↦ (let parts = and_parts (is_slash b) (is_slot done) here in ([], bs, ap (λ (k : ℕ). k ∷ bs) (eqb-true b 47 parts.0), ap is_slot (append-nil done) ∙ parts.1))
  | inr later ↦ (let at = under_parts (done ++ b ∷ []) bs later in (b ∷ at.0, at.1, ap (λ (l : List ℕ). b ∷ l) at.2, ap is_slot (sym (append_assoc done (b ∷ []) at.0)) ∙ at.3))
]

-- no directory of units or presets lies beneath a slot
dirs_free : (place : Place) → is_under_slot [] (unit_directory place) ≡ false
unfolding unit_directory is_under_slot slot_of slots_in place_of preset_place_of parent name_at dependency_directory_slots
dirs_free Etc = refl
dirs_free Run = refl
dirs_free Local = refl
dirs_free Vendor = refl

presets_free : (place : Place) → is_under_slot [] (preset_directory place) ≡ false
unfolding unit_directory is_under_slot slot_of slots_in place_of preset_place_of parent name_at dependency_directory_slots
presets_free Etc = refl
presets_free Run = refl
presets_free Local = refl
presets_free Vendor = refl

not_above : (slot dir : List ℕ) → is_slot slot ≡ true → is_under_slot [] dir ≡ false → is_beneath dir slot ≡ false
not_above slot dir is free = elim (cases_Bool (is_beneath dir slot)) [
  | inl beneath ↦ (let at = beneath-parts dir slot beneath in absurd (false≢true (sym free ∙ ap (is_under_slot []) at.1 ∙ under-slot [] slot at.0 is)))
  | inr off ↦ off
]

none_of_places : (p : Place → Bool) (all : List Place) → ((place : Place) → p place ≡ false) → list_any p all ≡ false
none_of_places p [] none = refl
none_of_places p (place ∷ rest) none = rw (none place, none_of_places p rest none) refl

slot_not_over : (slot : List ℕ) → is_slot slot ≡ true → (is_over_units slot || is_over_presets slot) ≡ false
slot_not_over slot is =
    rw (none_of_places (λ place. is_beneath (unit_directory place) slot) places (λ place. not_above slot (unit_directory place) is (dirs_free place)))
    (none_of_places (λ place. is_beneath (preset_directory place) slot) preset_places (λ place. not_above slot (preset_directory place) is (presets_free place)))

none_from : (o : Option NameFault) → is_none o ≡ true → o ≡ None
none_from None h = refl
none_from (Some fault) h = absurd (false≢true h)

-- what follows the last dot of a unit's name is a type
named_type : (name : List ℕ) → is_unit_name name ≡ true → is_some (type_named (suffix_of name)) ≡ true
unfolding type_of
named_type name h =
    let is = name_from_no_fault name (none_from (name_fault name) h) in
    ap is_some (parts_read name is.0 is.1).2

no_such_type : (type_named (codes "wants") ≡ None) × (type_named (codes "requires") ≡ None) × (type_named (codes "upholds") ≡ None)
unfolding type_named type_text
no_such_type = (refl, refl, refl)

not_dependency_directory : (name word : List ℕ) → list_any is_dot word ≡ false → type_named word ≡ None → is_dependency_directory (46 ∷ word) name ≡ true → is_unit_name name ≡ true → ⊥
unfolding is_dependency_directory
not_dependency_directory name word none untyped list is =
    let ends = (ends_is Decides-eqb name (46 ∷ word) (ends_with nat_eq name (46 ∷ word)) refl).0 (and_parts (ends_with nat_eq name (46 ∷ word)) _ list).0 in
    let typed = named_type name is in
    false≢true (sym (ap (λ t. is_some (type_named (suffix_of t))) ends ∙ ap (λ t. is_some (type_named t)) (suffix_of-seam (take (length name - length (46 ∷ word)) name) word none) ∙ ap is_some untyped) ∙ typed)

some_if : (b : Bool) (slot : Slot) → is_some (cond b (Some slot) None) ≡ true → b ≡ true
some_if true slot h = refl
some_if false slot h = absurd (false≢true h)

unit_named : (place preset : Option Place) (other : Option Slot) (name : List ℕ) → is_some place ≡ true → is_some (named_slot (first_directory place preset other) name) ≡ true → is_unit_name name ≡ true
unit_named None preset other name some h = absurd (false≢true some)
unit_named (Some place) preset other name some h = some_if (is_unit_name name) _ h

dependency_named : (place : Option Place) (name : List ℕ) → is_some (dependency_slots_in place name) ≡ true
    → (is_dependency_directory (codes ".wants") name ≡ true) ⊎ ((is_dependency_directory (codes ".requires") name ≡ true) ⊎ (is_dependency_directory (codes ".upholds") name ≡ true))
unfolding dependency_directory_slots
dependency_named None name h = absurd (false≢true h)
dependency_named (Some place) name h = elim (cases_Bool (is_dependency_directory (codes ".wants") name)) [
  | inl wants ↦ inl wants
  | inr other ↦ inr (elim (cases_Bool (is_dependency_directory (codes ".requires") name)) [
    | inl requires ↦ inl requires
    | inr third ↦ inr (some_if (is_dependency_directory (codes ".upholds") name) (Upholds place) (rw (other, third) at h))
  ])
]

slot_name : (slot : List ℕ) → is_slot slot ≡ true → is_some (place_of (parent slot)) ≡ true → is_unit_name (name_at slot) ≡ true
unfolding slot_of slots_in
slot_name slot is some = unit_named (place_of (parent slot)) (preset_place_of (parent slot)) (dependency_slots_in (place_of (parent (parent slot))) (name_at (parent slot))) (name_at slot) some is

dirs_no_slots : (place : Place) → is_slot (unit_directory place) ≡ false
unfolding unit_directory slot_of slots_in place_of preset_place_of parent name_at dependency_directory_slots
dirs_no_slots Etc = refl
dirs_no_slots Run = refl
dirs_no_slots Local = refl
dirs_no_slots Vendor = refl

presets_no_slots : (place : Place) → is_slot (preset_directory place) ≡ false
unfolding unit_directory slot_of slots_in place_of preset_place_of parent name_at dependency_directory_slots
presets_no_slots Etc = refl
presets_no_slots Run = refl
presets_no_slots Local = refl
presets_no_slots Vendor = refl

clash : (b : Bool) → b ≡ false → b ≡ true → ⊥
clash b e f = false≢true (sym e ∙ f)

no_dir : (slot : List ℕ) → is_slot slot ≡ true → is_some (slots_in slot) ≡ true → ⊥
unfolding slots_in
no_dir slot is dir = elim (first_cases (place_of slot) (preset_place_of slot) (dependency_slots_in (place_of (parent slot)) (name_at slot)) dir) [
  | inl place ↦ place_all (λ d. is_slot d ≡ true → ⊥) slot place (λ p. clash _ (dirs_no_slots p)) is
  | inr others ↦ elim others [
    | inl preset ↦ preset_all (λ d. is_slot d ≡ true → ⊥) slot preset (clash _ (presets_no_slots Etc)) (clash _ (presets_no_slots Run)) (clash _ (presets_no_slots Vendor)) is
    | inr list ↦ (let name = slot_name slot is (dependency_place (place_of (parent slot)) (name_at slot) list) in
        elim (dependency_named (place_of (parent slot)) (name_at slot) list) [
          | inl wants ↦ not_dependency_directory (name_at slot) (codes "wants") refl no_such_type.0 wants name
          | inr others ↦ elim others [
            | inl requires ↦ not_dependency_directory (name_at slot) (codes "requires") refl no_such_type.1 requires name
            | inr upholds ↦ not_dependency_directory (name_at slot) (codes "upholds") refl no_such_type.2 upholds name
          ]
        ])
  ]
]

-- no slot is a directory that contains slots
slot_no_dir : (slot : List ℕ) → is_slot slot ≡ true → is_some (slots_in slot) ≡ false
slot_no_dir slot is = elim (cases_Bool (is_some (slots_in slot))) [
  | inl dir ↦ absurd (no_dir slot is dir)
  | inr off ↦ off
]

off_both : (x y : Bool) → x ≡ false → y ≡ false → (x || y) ≡ false
off_both x y e f = rw (e, f) refl

no_dir_or_over : (slot : List ℕ) → is_slot slot ≡ true → (is_some (slots_in slot) || (is_over_units slot || is_over_presets slot)) ≡ false
no_dir_or_over slot is = off_both _ _ (slot_no_dir slot is) (slot_not_over slot is)

slot_not_under : (slot : List ℕ) → is_slot slot ≡ true → is_under_slot [] slot ≡ false
slot_not_under slot is = elim (cases_Bool (is_under_slot [] slot)) [
  | inl under ↦ (let at = under_parts [] slot under in
      absurd (false≢true (sym (no_dir_or_over at.0 at.3) ∙ slot_over slot at.0 is (ap (λ (l : List ℕ). is_beneath l at.0) at.2 ∙ beneath-after at.0 (47 ∷ at.1) ∙ slash_first at.1))))
  | inr off ↦ off
]

-- a slot isn't of bad shape
pub slot_shape : (slot : List ℕ) → is_slot slot ≡ true → is_bad_shape slot ≡ false
unfolding is_bad_shape
slot_shape slot is = off_both _ _ (slot_not_under slot is) (no_dir_or_over slot is)

bad_beneath : (slot path : List ℕ) → is_slot slot ≡ true → is_beneath path slot ≡ true → is_bad_shape path ≡ true
unfolding is_bad_shape
bad_beneath slot path is beneath = let at = beneath-parts path slot beneath in or_left _ _ (ap (is_under_slot []) at.1 ∙ under-slot [] slot at.0 is)

bad_over : (slot path : List ℕ) → is_slot slot ≡ true → is_beneath slot path ≡ true → is_bad_shape path ≡ true
unfolding is_bad_shape
bad_over slot path is beneath = or_right _ _ (slot_over slot path is beneath)

pub slot_apart : (slot path : List ℕ) → is_slot slot ≡ true → is_bad_shape path ≡ false → is_close slot path ≡ false
unfolding is_close
slot_apart slot path is good = elim (cases_Bool (is_close slot path)) [
  | inl close ↦ elim (or_cases (is_beneath slot path) (is_beneath path slot) close) [
    | inl over ↦ absurd (false≢true (sym good ∙ bad_over slot path is over))
    | inr under ↦ absurd (false≢true (sym good ∙ bad_beneath slot path is under))
  ]
  | inr apart ↦ apart
]
