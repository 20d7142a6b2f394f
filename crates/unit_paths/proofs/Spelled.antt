-- A path is a slot exactly if it is spelled as one.
use Rattle.std.proofs.Common.{◌≡◌, ◌≢◌, ℕ, zero, suc, Bool, true, false, ◌||◌, ◌-◌, List, [], ◌∷◌, ◌++◌, length, length-append, take, Option, Some, None, refl, sym, ◌∙◌, ap, subst, cond, All, arith, inl, inr}
use Rattle.std.specs.Prelude.{Contains, codes, nat_eq, not}
use Rattle.std.specs.List.{find, list_any, ends_with}
use Rattle.std.specs.Str.{bytes_eq}
use Rattle.std.proofs.lemmas.Slice.Eq.{bytes_eq-Decides, ends_is}
use Rattle.std.proofs.lemmas.Bool.Decides.{Decides-eqb}
use Rattle.std.proofs.lemmas.Bool.{cases_Bool, false≢true, and_parts, and_from, or_parts, eqb-true, false_from_ne_true}
use Rattle.std.proofs.lemmas.List.Elements.{All-nil, All-cons, All-weaker}
use Rattle.std.proofs.lemmas.List.Folds.{list_any-append, list_any_none}
use Rattle.unit_name.specs.Name.{is_unit_name}
use Rattle.unit_paths.specs.declared.place.Place.{Place}
use Rattle.unit_paths.specs.declared.place.Place.TheVariants.{Etc, Run, Local, Vendor}
use Rattle.unit_paths.specs.declared.slot.Dependency.{Dependency}
use Rattle.unit_paths.specs.declared.slot.Dependency.TheVariants as dependencies
use Rattle.unit_paths.specs.declared.slot.Slot.{Slot}
use Rattle.unit_paths.specs.declared.slot.Slot.TheVariants as slots
use Rattle.unit_paths.specs.Paths.{is_slash, parent, name_at}
use Rattle.unit_paths.specs.Places.{unit_directory, places, preset_directory, preset_places, place_of, preset_place_of}
use Rattle.unit_paths.specs.Slots.{dependency_ending, is_dependency_directory, dependency_directory_slots, dependency_slots_in, first_directory, slots_in, is_preset_name, is_name_for, named_slot, slot_of}
use Rattle.unit_paths.specs.Spellings.{IsUnitSlot, IsDependencySlot, IsPresetSlot, IsSpelled, SlotsAreSpelled}
use Rattle.unit_paths.proofs.Slashes.{parent-none, parent-seam, name-seam, last_slash}
use Rattle.unit_paths.proofs.UnitSlots.{unit_slot_is}
use Rattle.unit_paths.proofs.DependencySlots.{dependency_slot_is}

module _ {A : Type 0} (p : A → Bool) where
  first_is : (x y : A) (o : Option A) → p y ≡ true → cond (p y) (Some y) o ≡ Some x → y ≡ x
  first_is x y o on h = let is : Some y ≡ Some x = sym (ap (λ b. cond b (Some y) o) on) ∙ h in cc

  find_passes : (xs : List A) (x : A) → find p xs ≡ Some x → p x ≡ true
  find_passes [] x h = cc
  find_passes (y ∷ ys) x h = elim (cases_Bool (p y)) [
    | inl on ↦ subst (λ z. p z ≡ true) (first_is x y (find p ys) on h) on
    | inr off ↦ find_passes ys x (sym (ap (λ b. cond b (Some y) (find p ys)) off) ∙ h)
  ]

  find_in : (xs : List A) (x : A) → find p xs ≡ Some x → Contains xs x
  find_in [] x h = cc
  find_in (y ∷ ys) x h = elim (cases_Bool (p y)) [
    | inl on ↦ (0, omega arith, first_is x y (find p ys) on h)
    | inr off ↦ (let rest = find_in ys x (sym (ap (λ b. cond b (Some y) (find p ys)) off) ∙ h) in (suc rest.0, omega (arith, rest.1), rest.2))
  ]

dir_of_place : (dir : List ℕ) (place : Place) → place_of dir ≡ Some place → dir ≡ unit_directory place
unfolding place_of
dir_of_place dir place h = (bytes_eq-Decides dir (unit_directory place)).0 (find_passes (λ p. bytes_eq dir (unit_directory p)) places place h)

dir_of_preset : (dir : List ℕ) (place : Place) → preset_place_of dir ≡ Some place → dir ≡ preset_directory place
unfolding preset_place_of
dir_of_preset dir place h = (bytes_eq-Decides dir (preset_directory place)).0 (find_passes (λ p. bytes_eq dir (preset_directory p)) preset_places place h)

preset_among : (dir : List ℕ) (place : Place) → preset_place_of dir ≡ Some place → Contains preset_places place
unfolding preset_place_of
preset_among dir place h = find_in (λ p. bytes_eq dir (preset_directory p)) preset_places place h

-- the empty text isn't a directory of units or presets
no_unit_place : place_of [] ≡ None
unfolding place_of unit_directory
no_unit_place = refl

no_preset_place : preset_place_of [] ≡ None
unfolding preset_place_of unit_directory
no_preset_place = refl

no_parent : parent [] ≡ []
unfolding parent
no_parent = refl

never : (place : Place) → None ≡ Some place → ⊥
never place h = cc

slash_if : (text : List ℕ) → (parent text ≡ [] → ⊥) → list_any is_slash text ≡ true
slash_if text up = elim (cases_Bool (list_any is_slash text)) [
  | inl some ↦ some
  | inr none ↦ absurd (up (parent-none text none))
]

unit_slash : (text : List ℕ) (place : Place) → place_of (parent text) ≡ Some place → list_any is_slash text ≡ true
unit_slash text place is = slash_if text (λ none. never place (sym no_unit_place ∙ sym (ap place_of none) ∙ is))

preset_slash : (text : List ℕ) (place : Place) → preset_place_of (parent text) ≡ Some place → list_any is_slash text ≡ true
preset_slash text place is = slash_if text (λ none. never place (sym no_preset_place ∙ sym (ap preset_place_of none) ∙ is))

dependency_slash : (text : List ℕ) (place : Place) → place_of (parent (parent text)) ≡ Some place → list_any is_slash text ≡ true
dependency_slash text place is = slash_if text (λ none. never place (sym no_unit_place ∙ sym (ap place_of (ap parent none ∙ no_parent)) ∙ is))

-- the name is right for the slot
named_is : (o : Option Slot) (name : List ℕ) (slot : Slot) → named_slot o name ≡ Some slot → (o ≡ Some slot) × (is_name_for slot name ≡ true)
named_is None name slot h = cc
named_is (Some s) name slot h = elim (cases_Bool (is_name_for s name)) [
  | inl on ↦ (let is : Some s ≡ Some slot = sym (ap (λ b. cond b (Some s) None) on) ∙ h in let same : s ≡ slot = cc in (is, subst (λ z. is_name_for z name ≡ true) same on))
  | inr off ↦ (let none : None ≡ Some slot = sym (ap (λ b. cond b (Some s) None) off) ∙ h in cc)
]

slot_same : (s slot : Slot) → Some s ≡ Some slot → s ≡ slot
slot_same s slot h = cc

ending : (name word : List ℕ) → ends_with nat_eq name word ≡ true → name ≡ take (length name - length word) name ++ word
ending name word h = (ends_is Decides-eqb name word (ends_with nat_eq name word) refl).0 h

unslashed : (file rest : List ℕ) → list_any is_slash (file ++ rest) ≡ false → All (λ b. b ≢ 47) file
unslashed [] rest h = All-nil (λ b. b ≢ 47)
unslashed (b ∷ bs) rest h =
    let parts = or_parts (is_slash b) (list_any is_slash (bs ++ rest)) h in
    All-cons (λ b. b ≢ 47) b bs (λ same. false≢true (sym parts.0 ∙ ap is_slash same)) (unslashed bs rest parts.1)

module _ (path : List ℕ) where
  unit_spelled : (place : Place) → place_of (parent path) ≡ Some place → is_unit_name (name_at path) ≡ true → IsUnitSlot path place
  unit_spelled place dir good =
      let seam = last_slash path (unit_slash path place dir) in
      (name_at path, good, seam.is ∙ ap (λ d. d ++ 47 ∷ name_at path) (dir_of_place (parent path) place dir))

  preset_spelled : (place : Place) → preset_place_of (parent path) ≡ Some place → is_preset_name (name_at path) ≡ true → IsPresetSlot path place
  unfolding is_preset_name
  preset_spelled place dir good =
      let seam = last_slash path (preset_slash path place dir) in
      let name = name_at path in
      let word = codes ".preset" in
      let parts = and_parts (ends_with nat_eq name word) (not (bytes_eq name word)) good in
      let file = take (length name - length word) name in
      let is = ending name word parts.0 in (
        file,
        preset_among (parent path) place dir,
        (λ empty. false≢true (sym (ap not ((bytes_eq-Decides name word).1 (is ∙ ap (λ f. f ++ word) empty))) ∙ parts.1)),
        unslashed file word (sym (ap (list_any is_slash) is) ∙ seam.none),
        seam.is ∙ ap (λ d. d ++ 47 ∷ name_at path) (dir_of_preset (parent path) place dir) ∙ ap (λ n. preset_directory place ++ 47 ∷ n) is,
      )

  dependency_directory_spelled : (place : Place) (dependency : Dependency) → place_of (parent (parent path)) ≡ Some place
      → is_dependency_directory (dependency_ending dependency) (name_at (parent path)) ≡ true → is_unit_name (name_at path) ≡ true → IsDependencySlot path place dependency
  unfolding is_dependency_directory
  dependency_directory_spelled place dependency up list good =
      let directory = name_at (parent path) in
      let word = dependency_ending dependency in
      let of = take (length directory - length word) directory in
      let parts = and_parts (ends_with nat_eq directory word) (is_unit_name of) list in
      let seam = last_slash path (dependency_slash path place up) in
      let above = last_slash (parent path) (unit_slash (parent path) place up) in (
        of,
        name_at path,
        parts.1,
        good,
        seam.is ∙ ap (λ d. d ++ 47 ∷ name_at path) (above.is ∙ ap (λ d. d ++ 47 ∷ directory) (dir_of_place (parent (parent path)) place up) ∙ ap (λ n. unit_directory place ++ 47 ∷ n) (ending directory word parts.0)),
      )

  spelled_as : (slot found : Slot) → Some found ≡ Some slot → (is_name_for found (name_at path) ≡ true → IsSpelled path found) → is_name_for slot (name_at path) ≡ true → IsSpelled path slot
  spelled_as slot found same spelled = subst (λ s. is_name_for s (name_at path) ≡ true → IsSpelled path s) (slot_same found slot same) spelled

  dependency_spelled : (place : Place) (slot : Slot) → place_of (parent (parent path)) ≡ Some place → dependency_directory_slots place (name_at (parent path)) ≡ Some slot
      → is_name_for slot (name_at path) ≡ true → IsSpelled path slot
  unfolding dependency_directory_slots dependency_ending
  dependency_spelled place slot up dir good =
      let directory = name_at (parent path) in
      let requires = is_dependency_directory (codes ".requires") directory in
      let upholds = is_dependency_directory (codes ".upholds") directory in
      let third : Option Slot = cond upholds (Some (slots.Upholds place)) None in
      let second : Option Slot = cond requires (Some (slots.Requires place)) third in
      elim (cases_Bool (is_dependency_directory (codes ".wants") directory)) [
        | inl wants ↦ spelled_as slot (slots.Wants place) (sym (ap (λ b. cond b (Some (slots.Wants place)) second) wants) ∙ dir) (dependency_directory_spelled place dependencies.Wants up wants) good
        | inr other ↦ (let rest = sym (ap (λ b. cond b (Some (slots.Wants place)) second) other) ∙ dir in
            elim (cases_Bool requires) [
              | inl is ↦ spelled_as slot (slots.Requires place) (sym (ap (λ b. cond b (Some (slots.Requires place)) third) is) ∙ rest) (dependency_directory_spelled place dependencies.Requires up is) good
              | inr not ↦ (let last = sym (ap (λ b. cond b (Some (slots.Requires place)) third) not) ∙ rest in
                  elim (cases_Bool upholds) [
                    | inl is ↦ spelled_as slot (slots.Upholds place) (sym (ap (λ b. cond b (Some (slots.Upholds place)) None) is) ∙ last) (dependency_directory_spelled place dependencies.Upholds up is) good
                    | inr none ↦ (let gone : None ≡ Some slot = sym (ap (λ b. cond b (Some (slots.Upholds place)) None) none) ∙ last in cc)
                  ])
            ])
      ]

  by_directory : (slot : Slot) (unit preset above : Option Place) → place_of (parent path) ≡ unit → preset_place_of (parent path) ≡ preset → place_of (parent (parent path)) ≡ above
      → first_directory unit preset (dependency_slots_in above (name_at (parent path))) ≡ Some slot → is_name_for slot (name_at path) ≡ true → IsSpelled path slot
  by_directory slot (Some place) preset above unit at up dir good =
      subst (λ s. is_name_for s (name_at path) ≡ true → IsSpelled path s) (slot_same (slots.Unit place) slot dir) (unit_spelled place unit) good
  by_directory slot None (Some place) above unit at up dir good =
      subst (λ s. is_name_for s (name_at path) ≡ true → IsSpelled path s) (slot_same (slots.Preset place) slot dir) (preset_spelled place at) good
  by_directory slot None None None unit at up dir good = cc
  by_directory slot None None (Some place) unit at up dir good = dependency_spelled place slot up dir good

spelled : (path : List ℕ) (slot : Slot) → slot_of path ≡ Some slot → IsSpelled path slot
unfolding slot_of slots_in
spelled path slot h =
    let named = named_is (slots_in (parent path)) (name_at path) slot h in
    by_directory path slot (place_of (parent path)) (preset_place_of (parent path)) (place_of (parent (parent path))) refl refl refl named.0 named.1

-- which slots a directory of presets contains
preset_slots : (place : Place) → Contains preset_places place → slots_in (preset_directory place) ≡ Some (slots.Preset place)
unfolding unit_directory slots_in place_of preset_place_of parent name_at dependency_directory_slots
preset_slots Etc among = refl
preset_slots Run among = refl
preset_slots Vendor among = refl
preset_slots Local (zero, within, is) = cc
preset_slots Local (suc zero, within, is) = cc
preset_slots Local (suc (suc zero), within, is) = cc
preset_slots Local (suc (suc (suc k)), within, is) = absurd (omega (arith, within))

only_word : (file : List ℕ) → file ++ codes ".preset" ≡ codes ".preset" → file ≡ []
only_word [] h = refl
only_word (b ∷ bs) h = absurd (omega (arith, ap length h, length-append (b ∷ bs) (codes ".preset")))

preset_slot_is : (place : Place) (file : List ℕ) → Contains preset_places place → file ≢ [] → All (λ b. b ≢ 47) file → slot_of (preset_directory place ++ 47 ∷ (file ++ codes ".preset")) ≡ Some (slots.Preset place)
unfolding slot_of is_preset_name
preset_slot_is place file among some none =
    let word = codes ".preset" in
    let name = file ++ word in
    let dir = preset_directory place in
    let off = All-weaker (λ b. b ≢ 47) (λ b. is_slash b ≡ false) (λ b other. false_from_ne_true (is_slash b) (λ h. other (eqb-true b 47 h))) file none in
    let unslashed_name : list_any is_slash name ≡ false = list_any-append is_slash file word ∙ ap (λ b. b || list_any is_slash word) (list_any_none is_slash file off) in
    let ends = (ends_is Decides-eqb name word (ends_with nat_eq name word) refl).1 file refl in
    let longer = false_from_ne_true (bytes_eq name word) (λ h. some (only_word file ((bytes_eq-Decides name word).0 h))) in
    ap (λ d. named_slot (slots_in d) (name_at (dir ++ 47 ∷ name))) (parent-seam dir name unslashed_name)
    ∙ ap (λ o. named_slot o (name_at (dir ++ 47 ∷ name))) (preset_slots place among)
    ∙ ap (named_slot (Some (slots.Preset place))) (name-seam dir name unslashed_name)
    ∙ ap (λ b. cond b (Some (slots.Preset place)) None) (and_from (ends_with nat_eq name word) (not (bytes_eq name word)) ends (ap not longer))

unspelled : (path : List ℕ) (slot : Slot) → IsSpelled path slot → slot_of path ≡ Some slot
unspelled path (slots.Unit place) (name, good, is) = ap slot_of is ∙ unit_slot_is place name good
unspelled path (slots.Wants place) (of, name, of_good, good, is) = ap slot_of is ∙ dependency_slot_is place dependencies.Wants of name of_good good
unspelled path (slots.Requires place) (of, name, of_good, good, is) = ap slot_of is ∙ dependency_slot_is place dependencies.Requires of name of_good good
unspelled path (slots.Upholds place) (of, name, of_good, good, is) = ap slot_of is ∙ dependency_slot_is place dependencies.Upholds of name of_good good
unspelled path (slots.Preset place) (file, among, some, none, is) = ap slot_of is ∙ preset_slot_is place file among some none

pub slots_are_spelled : SlotsAreSpelled
slots_are_spelled path slot = (spelled path slot, unspelled path slot)
