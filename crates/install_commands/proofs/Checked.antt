-- Units pass the check if each is found under its own name, and the first that isn't is refused.
use Rattle.std.proofs.Common.{◌≡◌, ℕ, List, [], ◌∷◌, ◌++◌, All, Result, Ok, Err, refl, ap, ◌∙◌, inl, inr}
use Rattle.std.specs.Str.{bytes_eq}
use Rattle.std.proofs.lemmas.Bool.{cases_Bool}
use Rattle.std.proofs.lemmas.List.Elements.{All-nil, All-cons, All-head, All-tail}
use Rattle.std.proofs.lemmas.Slice.Eq.{bytes_eq-Decides}
use Rattle.link_tree.specs.Trees.{Entries}
use Rattle.link_tree.proofs.Changed.{same_bytes}
use Rattle.load_path.specs.declared.finding.Found.{Found}
use Rattle.load_path.specs.declared.finding.Found.TheVariants as founds
use Rattle.load_path.specs.Find.{find}
use Rattle.install_section.specs.Closure.{IsUnit}
use Rattle.tree_access.specs.declared.refusal.Refusal.{Refusal}
use Rattle.tree_access.specs.declared.refusal.Refusal.TheVariants.{IsAlias}
use Rattle.footprint.specs.Units.{found_unit}
use Rattle.install_commands.specs.Check.{as_itself, going_on, one_checked, checked}
use Rattle.install_commands.specs.Laws.{IsFirstAmiss, CheckPasses, CheckRefusesFirst}

module _ (t : Entries) where
  module _ (name : List ℕ) where
    by_found : (found : Found) → (find name).conclusion t ≡ found → as_itself name (found_unit name found) ≡ Ok tt → IsUnit t name
    by_found founds.Missing at is = cc
    by_found (founds.Masked place) at is = cc
    by_found (founds.Dangling link) at is = cc
    by_found (founds.Unit real file place) at is = elim (cases_Bool (bytes_eq real name)) [
      | inl same ↦ (file, place, at ∙ ap (λ real. founds.Unit real file place) (same_bytes real name same))
      | inr other ↦ (let amiss : Err (IsAlias name real) ≡ Ok tt = rw other at is in cc)
    ]

    pub one_fine : (one_checked name).conclusion t ≡ Ok tt → IsUnit t name
    one_fine is = by_found ((find name).conclusion t) refl is

    pub one_passes : IsUnit t name → (one_checked name).conclusion t ≡ Ok tt
    one_passes unit = ap (λ found. as_itself name (found_unit name found)) unit.2 ∙ rw ((bytes_eq-Decides name name).1 refl) refl

  -- one of these, and then the others
  abbrev after_one : (names : List (List ℕ)) → Result (Unit {0}) Refusal → Result (Unit {0}) Refusal
  after_one names one = (going_on (λ fine. checked names) one).conclusion t

  all_fine : (names : List (List ℕ)) → (checked names).conclusion t ≡ Ok tt → All (IsUnit t) names
  all_fine [] is = All-nil (IsUnit t)
  all_fine (name ∷ names) is = by_one (all_fine names) ((one_checked name).conclusion t) refl is
    where
      by_one : ((checked names).conclusion t ≡ Ok tt → All (IsUnit t) names) → (one : Result (Unit {0}) Refusal) → (one_checked name).conclusion t ≡ one → after_one names one ≡ Ok tt → All (IsUnit t) (name ∷ names)
      by_one all (Ok fine) at rest = All-cons (IsUnit t) name names (one_fine name at) (all rest)
      by_one all (Err refusal) at rest = cc

  all_pass : (names : List (List ℕ)) → All (IsUnit t) names → (checked names).conclusion t ≡ Ok tt
  all_pass [] all = refl
  all_pass (name ∷ names) all = ap (after_one names) (one_passes name (All-head (IsUnit t) name names all)) ∙ all_pass names (All-tail (IsUnit t) name names all)

  first_amiss : (names : List (List ℕ)) (refusal : Refusal) → (checked names).conclusion t ≡ Err refusal → IsFirstAmiss t names refusal
  first_amiss [] refusal is = cc
  first_amiss (name ∷ names) refusal is = by_one (first_amiss names refusal) ((one_checked name).conclusion t) refl is
    where
      by_one : ((checked names).conclusion t ≡ Err refusal → IsFirstAmiss t names refusal) → (one : Result (Unit {0}) Refusal) → (one_checked name).conclusion t ≡ one → after_one names one ≡ Err refusal → IsFirstAmiss t (name ∷ names) refusal
      by_one first (Ok fine) at rest = let later = first rest in
          (name ∷ later.0, later.1, later.2, ap (λ names. name ∷ names) later.3, All-cons (IsUnit t) name later.0 (one_fine name at) later.4, later.5)
      by_one first (Err other) at rest = ([], names, name, refl, All-nil (IsUnit t), at ∙ rest)

  amiss_refused : (before after : List (List ℕ)) (name : List ℕ) (refusal : Refusal) → All (IsUnit t) before → (one_checked name).conclusion t ≡ Err refusal
      → (checked (before ++ name ∷ after)).conclusion t ≡ Err refusal
  amiss_refused [] after name refusal all is = ap (after_one after) is
  amiss_refused (first ∷ before) after name refusal all is =
      ap (after_one (before ++ name ∷ after)) (one_passes first (All-head (IsUnit t) first before all))
      ∙ amiss_refused before after name refusal (All-tail (IsUnit t) first before all) is

pub check_passes : CheckPasses
check_passes names t = (all_fine t names, all_pass t names)

pub check_refuses_first : CheckRefusesFirst
check_refuses_first names t refusal = (
  first_amiss t names refusal,
  λ first. ap (λ names. (checked names).conclusion t) first.3 ∙ amiss_refused t first.0 first.1 first.2 refusal first.4 first.5,
)
