-- Operators that are compared one by one, from the first on.
use Rattle.std.proofs.Common.{◌≡◌, ℕ, zero, suc, ◌+◌, ◌-◌, ◌<◌, ◌≤◌, Bool, true, false, List, [], ◌∷◌, length, take, drop, get_or, refl, sym, ap, subst, ◌∙◌, inl, inr, arith}
use Rattle.std.specs.Prelude.{◌||◌}
use Rattle.std.specs.List.{list_any, IsDistinct, AllByRecursion}
use Rattle.std.specs.Str.{bytes_eq}
use Rattle.std.proofs.lemmas.Bool.{cases_Bool, true≢false}
use Rattle.std.proofs.lemmas.List.{drop_more, take_all, length-drop}
use Rattle.std.proofs.lemmas.Map.Keys.{IsDistinct-head, IsDistinct-tail, IsDistinct-cons}

none_is : {A : Type 0} (p : A → Bool) (xs : List A) → list_any p xs ≡ false → AllByRecursion (λ x. p x ≡ false) xs
none_is p [] none = tt
none_is p (x ∷ xs) none = elim (cases_Bool (p x)) [
  | inl here ↦ absurd (true≢false (sym (ap (λ b. b || list_any p xs) here) ∙ none))
  | inr off ↦ (off, none_is p xs (sym (ap (λ b. b || list_any p xs) off) ∙ none))
]

some_is_not : {A : Type 0} (p : A → Bool) (xs : List A) → list_any p xs ≡ true → AllByRecursion (λ x. p x ≡ false) xs → ⊥
some_is_not p [] some none = absurd (true≢false (sym some))
some_is_not p (x ∷ xs) some none = some_is_not p xs (sym (ap (λ b. b || list_any p xs) none.0) ∙ some) none.1

-- All are distinct exactly if those from this index on are.
pub record AreApart (all : List (List ℕ)) (place : ℕ) : Type 0 where
  pub on : IsDistinct bytes_eq (drop place all) → IsDistinct bytes_eq all
  pub back : IsDistinct bytes_eq all → IsDistinct bytes_eq (drop place all)

pub at_first : (all : List (List ℕ)) → AreApart all 0
at_first all = record { on = λ d. d; back = λ d. d }

module _ (all : List (List ℕ)) (place : ℕ) (operator : List ℕ) (is : operator ≡ get_or all place operator) (within : place < length all) (before : AreApart all place) where
  left : drop place all ≡ operator ∷ drop (place + 1) all
  left = drop_more all place operator within ∙ ap (λ o. o ∷ drop (place + 1) all) (sym is)

  -- those after the next
  behind : take (length all - (place + 1)) (drop (place + 1) all) ≡ drop (place + 1) all
  behind = take_all (length all - (place + 1)) (drop (place + 1) all) (omega (arith, length-drop (place + 1) all))

  -- the next is none of those after it
  pub one_apart : list_any (bytes_eq operator) (take (length all - (place + 1)) (drop (place + 1) all)) ≡ false → AreApart all (place + 1)
  one_apart none_there = (let none = ap (list_any (bytes_eq operator)) (sym behind) ∙ none_there in record {
    on = λ rest. before.on (subst (IsDistinct bytes_eq) (sym left) (IsDistinct-cons bytes_eq operator (drop (place + 1) all) (none_is (bytes_eq operator) (drop (place + 1) all) none) rest));
    back = λ whole. IsDistinct-tail bytes_eq operator (drop (place + 1) all) (subst (IsDistinct bytes_eq) left (before.back whole));
  })

  -- the next is one of those after it
  pub not_apart : list_any (bytes_eq operator) (take (length all - (place + 1)) (drop (place + 1) all)) ≡ true → ¬ IsDistinct bytes_eq all
  not_apart some whole = some_is_not (bytes_eq operator) (drop (place + 1) all) (ap (list_any (bytes_eq operator)) (sym behind) ∙ some) (IsDistinct-head bytes_eq operator (drop (place + 1) all) (subst (IsDistinct bytes_eq) left (before.back whole)))

none_left : (all : List (List ℕ)) (place : ℕ) → length all ≤ place → IsDistinct bytes_eq (drop place all)
unfolding IsDistinct
none_left [] zero h = tt
none_left [] (suc place) h = tt
none_left (x ∷ xs) zero h = absurd (omega arith)
none_left (x ∷ xs) (suc place) h = none_left xs place (omega arith)

pub all_apart : (all : List (List ℕ)) (place : ℕ) → length all ≤ place → AreApart all place → IsDistinct bytes_eq all
all_apart all place through before = before.on (none_left all place through)
