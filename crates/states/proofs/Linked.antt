-- The links by which one unit leads to another.
use Rattle.std.proofs.Common.{◌≡◌, ◌-◌, ℕ, zero, suc, true, false, not, ◌||◌, List, [], ◌∷◌, ◌++◌, Option, Some, None, length, length-append, take, refl, sym, ap, subst, ◌∙◌, inl, inr, arith, if◌then◌else◌}
use Rattle.std.specs.List.{list_any}
use Rattle.std.proofs.lemmas.Bool.{cases_Bool}
use Rattle.std.proofs.lemmas.List.Folds.{list_any-append}
use Rattle.unit_name.specs.Name.{is_unit_name}
use Rattle.unit_paths.specs.declared.place.Place.{Place}
use Rattle.unit_paths.specs.declared.place.Place.TheVariants as places
use Rattle.unit_paths.specs.declared.slot.Dependency.{Dependency}
use Rattle.unit_paths.specs.declared.slot.Dependency.TheVariants.{Wants, Requires, Upholds}
use Rattle.unit_paths.specs.declared.slot.Slot.{Slot}
use Rattle.unit_paths.specs.declared.slot.Slot.TheVariants as slots
use Rattle.unit_paths.specs.Canonical.{is_null_target}
use Rattle.unit_paths.specs.Paths.{is_slash, is_root, name_at, parent_of}
use Rattle.unit_paths.specs.Places.{unit_directory}
use Rattle.unit_paths.specs.Slots.{unit_slot, dependency_ending, dependency_slot, slot_of_dependency, slot_of}
use Rattle.unit_paths.proofs.Slashes.{parent-seam, name-seam}
use Rattle.unit_paths.proofs.UnitSlots.{no_slash, name_facts}
use Rattle.unit_paths.proofs.DependencySlots.{dependency_slot_is}
use Rattle.unit_paths.proofs.Spelled.{slots_are_spelled}
use Rattle.link_tree.specs.declared.entry.Entry.{Entry}
use Rattle.link_tree.specs.declared.entry.Entry.TheVariants.{File, Link}
use Rattle.states.specs.declared.step.Step.{Step}
use Rattle.states.specs.Dependencies.{ending_of, named_step, step_from, step_at}

take_front : {X : Type 0} (xs ys : List X) (n : ℕ) → n ≡ length xs → take n (xs ++ ys) ≡ xs
take_front [] ys zero is = refl
take_front [] ys (suc n) is = absurd (omega (arith, is))
take_front (x ∷ xs) ys zero is = absurd (omega (arith, is))
take_front (x ∷ xs) ys (suc n) is = ap (λ rest. x ∷ rest) (take_front xs ys n (omega (arith, is)))

name_slash : (name : List ℕ) → is_unit_name name ≡ true → list_any is_slash name ≡ false
name_slash name good = no_slash name (name_facts name good).bytes

ending_slash : (dependency : Dependency) → list_any is_slash (dependency_ending dependency) ≡ false
unfolding dependency_ending
ending_slash Wants = refl
ending_slash Requires = refl
ending_slash Upholds = refl

not_root : (place : Place) (rest : List ℕ) → is_root (unit_directory place ++ rest) ≡ false
unfolding unit_directory
not_root places.Etc rest = refl
not_root places.Run rest = refl
not_root places.Local rest = refl
not_root places.Vendor rest = refl

ending_there : (place : Place) (dependency : Dependency) → ending_of (Some (slot_of_dependency place dependency)) ≡ Some (dependency_ending dependency)
ending_there place Wants = refl
ending_there place Requires = refl
ending_there place Upholds = refl

module _ (place : Place) (dependency : Dependency) (of name : List ℕ) (of_good : is_unit_name of ≡ true) (good : is_unit_name name ≡ true) where
  abbrev directory : List ℕ
  directory = of ++ dependency_ending dependency

  directory_slash : list_any is_slash directory ≡ false
  directory_slash = list_any-append is_slash of (dependency_ending dependency) ∙ ap (λ b. b || list_any is_slash (dependency_ending dependency)) (name_slash of of_good) ∙ ending_slash dependency

  path_directory : parent_of (dependency_slot place dependency of name) ≡ Some (unit_slot place directory)
  path_directory =
      ap (λ above. if is_root above then None else Some above) (parent-seam (unit_slot place directory) name (name_slash name good))
      ∙ ap (λ b. if b then None else Some (unit_slot place directory)) (not_root place (47 ∷ directory))

  of_again : take (length (name_at (unit_slot place directory)) - length (dependency_ending dependency)) (name_at (unit_slot place directory)) ≡ of
  of_again =
      ap (λ text. take (length text - length (dependency_ending dependency)) text) (name-seam (unit_directory place) directory directory_slash)
      ∙ take_front of (dependency_ending dependency) (length directory - length (dependency_ending dependency)) (omega (arith, length-append of (dependency_ending dependency)))

  -- a link at the slot of a dependency leads from one unit to the other
  pub link_step : (target : List ℕ) → is_null_target (dependency_slot place dependency of name) target ≡ false
      → step_at (dependency_slot place dependency of name) (Link target) ≡ Some (record { from = of; to = name })
  unfolding step_at
  link_step target other =
      let path = dependency_slot place dependency of name in
      ap (λ b. if not b then step_from (parent_of path) (ending_of (slot_of path)) (name_at path) else None) other
      ∙ ap (λ above. step_from above (ending_of (slot_of path)) (name_at path)) path_directory
      ∙ ap (λ slot. step_from (Some (unit_slot place directory)) (ending_of slot) (name_at path)) (dependency_slot_is place dependency of name of_good good)
      ∙ ap (λ ending. step_from (Some (unit_slot place directory)) ending (name_at path)) (ending_there place dependency)
      ∙ ap (λ to. step_from (Some (unit_slot place directory)) (Some (dependency_ending dependency)) to) (name-seam (unit_slot place directory) name (name_slash name good))
      ∙ ap (λ from. named_step from name) of_again
      ∙ rw (of_good, good) refl

-- An entry is a link by which one unit leads to another.
pub record IsStepLink (path : List ℕ) (entry : Entry) (step : Step) : Type 0 where
  pub from_good : is_unit_name step.from ≡ true
  pub to_good : is_unit_name step.to ≡ true
  pub place : Place
  pub dependency : Dependency
  pub target : List ℕ
  pub at : path ≡ dependency_slot place dependency step.from step.to
  pub is : entry ≡ Link target
  pub other : is_null_target path target ≡ false

some_is : (one other : Step) → Some one ≡ Some other → one ≡ other
some_is one other h = cc

none_is : (step : Step) {P : Type 0} → None ≡ Some step → P
none_is step h = cc

no_ending : (above : Option (List ℕ)) (to : List ℕ) (step : Step) {P : Type 0} → step_from above None to ≡ Some step → P
no_ending None to step h = none_is step h
no_ending (Some above) to step h = none_is step h

module _ (path target : List ℕ) (step : Step) (other : is_null_target path target ≡ false) (h : step_at path (Link target) ≡ Some step) where
  -- the path is that slot
  at_dependency : (place : Place) (dependency : Dependency) (of name : List ℕ) → is_unit_name of ≡ true → is_unit_name name ≡ true → path ≡ dependency_slot place dependency of name → IsStepLink path (Link target) step
  at_dependency place dependency of name of_good good at =
      let slot_other : is_null_target (dependency_slot place dependency of name) target ≡ false = subst (λ path. is_null_target path target ≡ false) at other in
      let made = link_step place dependency of name of_good good target slot_other in
      let same : record { from = of; to = name } ≡ step = some_is (record { from = of; to = name }) step (sym made ∙ sym (ap (λ path. step_at path (Link target)) at) ∙ h) in
      subst (IsStepLink path (Link target)) same (record { from_good = of_good; to_good = good; place = place; dependency = dependency; target = target; at = at; is = refl; other = other })

  by_slot : (slot : Option Slot) → slot_of path ≡ slot → step_from (parent_of path) (ending_of slot) (name_at path) ≡ Some step → IsStepLink path (Link target) step
  by_slot None is leads = no_ending (parent_of path) (name_at path) step leads
  by_slot (Some (slots.Unit place)) is leads = no_ending (parent_of path) (name_at path) step leads
  by_slot (Some (slots.Preset place)) is leads = no_ending (parent_of path) (name_at path) step leads
  by_slot (Some (slots.Wants place)) is leads = (let spelled = (slots_are_spelled path (slots.Wants place)).0 is in at_dependency place Wants spelled.0 spelled.1 spelled.2 spelled.3 spelled.4)
  by_slot (Some (slots.Requires place)) is leads = (let spelled = (slots_are_spelled path (slots.Requires place)).0 is in at_dependency place Requires spelled.0 spelled.1 spelled.2 spelled.3 spelled.4)
  by_slot (Some (slots.Upholds place)) is leads = (let spelled = (slots_are_spelled path (slots.Upholds place)).0 is in at_dependency place Upholds spelled.0 spelled.1 spelled.2 spelled.3 spelled.4)

  unfolded : step_from (parent_of path) (ending_of (slot_of path)) (name_at path) ≡ Some step
  unfolding step_at
  unfolded = rw other at h

  of_link : IsStepLink path (Link target) step
  of_link = by_slot (slot_of path) refl unfolded

-- so a step is that of such a link
pub step_link : (path : List ℕ) (entry : Entry) (step : Step) → step_at path entry ≡ Some step → IsStepLink path entry step
unfolding step_at
step_link path (File contents) step h = none_is step h
step_link path (Link target) step h = elim (cases_Bool (is_null_target path target)) [
  | inr other ↦ of_link path target step other h
  | inl null ↦ (let none : None ≡ Some step = rw null at h in none_is step none)
]
