-- The first place of a word that passes a test is the least.
use Rattle.std.proofs.Common.{◌≡◌, ℕ, zero, suc, ◌+◌, ◌<◌, Bool, true, false, List, [], ◌∷◌, length, Option, Some, None, refl, sym, ◌∙◌, subst, if◌then◌else◌, arith, add-zero, zero-add}
use Rattle.std.specs.List.{slice_index_or}
use Rattle.root_runs.specs.BadWords.{first_place, IsFirstPlace, IsLeastPlace, IsBadPlace, bad_place, is_at_fault, verb_in}
use Rattle.unit_script.specs.declared.reason.Reason.{Reason}

-- the word at this place passes the test
abbrev pub At : (ℕ → List ℕ → Bool) → ℕ → List (List ℕ) → ℕ → Bool → Type 0
At test k words n is = test (k + n) (slice_index_or words n []) ≡ is

-- the first place of a word that passes, if the first of the words is at place k
abbrev pub IsPlaceFrom : (ℕ → List ℕ → Bool) → ℕ → List (List ℕ) → Option ℕ → Type 0
IsPlaceFrom test k words None = (n : ℕ) → n < length words → At test k words n false
IsPlaceFrom test k words (Some place) =
    (n : ℕ) × (place ≡ k + n) × (n < length words) × At test k words n true × ((m : ℕ) → m < n → At test k words m false)

-- a place one further
one_further : (k n : ℕ) → (k + 1) + n ≡ k + suc n
one_further k n = omega arith

-- the first word doesn't pass, and so none passes before the first of the others
none_before : (test : ℕ → List ℕ → Bool) (k : ℕ) (word : List ℕ) (words : List (List ℕ)) (limit : ℕ) → test k word ≡ false
    → ((m : ℕ) → m < limit → At test (k + 1) words m false) → (m : ℕ) → m < suc limit → At test k (word ∷ words) m false
none_before test k word words limit fails others zero below = subst (λ n. test n word ≡ false) (sym (add-zero k)) fails
none_before test k word words limit fails others (suc m) below =
    subst (λ n. test n (slice_index_or words m []) ≡ false) (one_further k m) (others m (omega (below, arith)))

-- the first word doesn't pass
later : (test : ℕ → List ℕ → Bool) (k : ℕ) (word : List ℕ) (words : List (List ℕ)) → test k word ≡ false
    → (place : Option ℕ) → IsPlaceFrom test (k + 1) words place → IsPlaceFrom test k (word ∷ words) place
later test k word words fails None none = none_before test k word words (length words) fails none
later test k word words fails (Some place) (n, is, within, passes, least) =
    (suc n, is ∙ one_further k n, omega (within, arith), subst (λ m. test m (slice_index_or words n []) ≡ true) (one_further k n) passes, none_before test k word words n fails least)

-- the first word passes
here : (test : ℕ → List ℕ → Bool) (k : ℕ) (word : List ℕ) (words : List (List ℕ)) → test k word ≡ true → IsPlaceFrom test k (word ∷ words) (Some k)
here test k word words passes =
    (0, sym (add-zero k), omega arith, subst (λ m. test m word ≡ true) (sym (add-zero k)) passes, λ m below. absurd (omega (below, arith)))

placed_from : (test : ℕ → List ℕ → Bool) (k : ℕ) (words : List (List ℕ)) → IsPlaceFrom test k words (first_place test k words)
unfolding first_place
placed_from test k [] = λ n below. absurd (omega (below, arith))
placed_from test k (word ∷ words) =
    elim (test k word) as (λ b. test k word ≡ b → IsPlaceFrom test k (word ∷ words) (if b then Some k else first_place test (k + 1) words)) [
      | true ↦ λ passes. here test k word words passes
      | false ↦ λ fails. later test k word words fails (first_place test (k + 1) words) (placed_from test (k + 1) words)
    ] refl

-- from place 0 on
from_zero : (test : ℕ → List ℕ → Bool) (words : List (List ℕ)) (place : Option ℕ) → IsPlaceFrom test 0 words place → IsLeastPlace test words place
from_zero test words None none = λ n below. subst (λ m. test m (slice_index_or words n []) ≡ false) (zero-add n) (none n below)
from_zero test words (Some place) (n, is, within, passes, least) =
    subst (IsFirstPlace test words) (sym (is ∙ zero-add n)) (record {
      within = within;
      passes = subst (λ m. test m (slice_index_or words n []) ≡ true) (zero-add n) passes;
      least = λ m below. subst (λ i. test i (slice_index_or words m []) ≡ false) (zero-add m) (least m below);
    })

first_is_least : (test : ℕ → List ℕ → Bool) (words : List (List ℕ)) → IsLeastPlace test words (first_place test 0 words)
first_is_least test words = from_zero test words (first_place test 0 words) (placed_from test 0 words)

-- the first place of a word at fault is the least
pub bad_place_is_least : (reason : Reason) (words : List (List ℕ)) (place : Option ℕ) → place ≡ bad_place reason words → IsBadPlace reason words place
bad_place_is_least reason words place is = subst (IsBadPlace reason words) (sym is) (first_is_least (is_at_fault reason (verb_in words)) words)
