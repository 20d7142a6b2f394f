-- Rows in which one place was written, or which were made longer.
use Rattle.std.proofs.Common.{◌≡◌, ◌<◌, ℕ, zero, suc, Bool, true, false, cond, List, [], ◌∷◌, ◌++◌, length, refl, sym, ap, ◌∙◌, ◌⊎◌, inl, inr}
use Rattle.std.specs.Prelude.{Vec, ◌==◌, slice_index_or, slice_set}
use Rattle.std.specs.Global.{Global}
use Rattle.std.specs.List.{AllClonesOf, AllZip, each_same}
use Rattle.std.proofs.lemmas.Bool.{cases_Bool, eqb-true, eqb-false}
use Rattle.std.proofs.lemmas.List.{get_or-set_same, get_or-set_other}

module _ {X : Type 0} where
  -- a row, or a clone of it
  pub same_row : {P : Type 0} {v w : Vec X Global} → (w ≡ v) ⊎ (AllZip (λ x y. y ≡ x) v.items w.items × P) → w.items ≡ v.items
  same_row (inl same) = ap (λ u. u.items) same
  same_row {v = v} {w = w} (inr copied) = each_same v.items w.items copied.0

  -- places after the end have this value, too
  pub longer : (xs ys : List X) (x d : X) → AllClonesOf (λ x y. y ≡ x) x ys → x ≡ d → (k : ℕ) → slice_index_or (xs ++ ys) k d ≡ slice_index_or xs k d
  longer [] [] x d all is k = refl
  longer [] (y ∷ ys) x d all is zero = either all.0 ∙ is
    where
      either : {X : Type 0} {x y : X} → (y ≡ x) ⊎ (y ≡ x) → y ≡ x
      either (inl h) = h
      either (inr h) = h
  longer [] (y ∷ ys) x d all is (suc k) = longer [] ys x d all.1 is k
  longer (z ∷ xs) ys x d all is zero = refl
  longer (z ∷ xs) ys x d all is (suc k) = longer xs ys x d all is k

  -- the value at each place of a row after one place was written
  pub written : (xs : List X) (i : ℕ) (y d : X) → i < length xs → (k : ℕ) → slice_index_or (slice_set xs i y) k d ≡ cond (k == i) y (slice_index_or xs k d)
  written xs i y d within k = elim (cases_Bool (k == i)) [
    | inl here ↦ ap (λ j. slice_index_or (slice_set xs i y) j d) (eqb-true k i here) ∙ get_or-set_same xs i y d within ∙ sym (ap (λ b. cond b y (slice_index_or xs k d)) here)
    | inr away ↦ get_or-set_other xs i k y d (eqb-false k i away) ∙ sym (ap (λ b. cond b y (slice_index_or xs k d)) away)
  ]

  -- the same for a function of each value
  pub written_as : {Y : Type 0} (f : X → Y) (xs : List X) (i : ℕ) (y d : X) → i < length xs → (k : ℕ) → f (slice_index_or (slice_set xs i y) k d) ≡ cond (k == i) (f y) (f (slice_index_or xs k d))
  written_as f xs i y d within k = ap f (written xs i y d within k) ∙ elim (k == i) as (λ b. f (cond b y (slice_index_or xs k d)) ≡ cond b (f y) (f (slice_index_or xs k d))) [ true ↦ refl | false ↦ refl ]

  -- a place of a row, read by its number
  pub own_place : {Y : Type 0} (f : X → Y) (h : Y → Y) (b : Bool) (xs : List X) (d : X) (i k : ℕ) → cond (k == i) (cond b (h (f (slice_index_or xs i d))) (f (slice_index_or xs i d))) (f (slice_index_or xs k d)) ≡ cond (cond (k == i) b false) (h (f (slice_index_or xs k d))) (f (slice_index_or xs k d))
  own_place f h b xs d i k = elim (cases_Bool (k == i)) [
    | inl here ↦ ap (λ c. cond c (cond b (h (f (slice_index_or xs i d))) (f (slice_index_or xs i d))) (f (slice_index_or xs k d))) here
        ∙ ap (λ j. cond b (h (f (slice_index_or xs j d))) (f (slice_index_or xs j d))) (sym (eqb-true k i here))
        ∙ sym (ap (λ c. cond (cond c b false) (h (f (slice_index_or xs k d))) (f (slice_index_or xs k d))) here)
    | inr away ↦ ap (λ c. cond c (cond b (h (f (slice_index_or xs i d))) (f (slice_index_or xs i d))) (f (slice_index_or xs k d))) away
        ∙ sym (ap (λ c. cond (cond c b false) (h (f (slice_index_or xs k d))) (f (slice_index_or xs k d))) away)
  ]

  -- one place was written, and a function of its value is as before
  pub written_alike : {Y : Type 0} (f : X → Y) (xs : List X) (i : ℕ) (y d : X) → i < length xs → f y ≡ f (slice_index_or xs i d) → (k : ℕ) → f (slice_index_or (slice_set xs i y) k d) ≡ f (slice_index_or xs k d)
  written_alike f xs i y d within is k = written_as f xs i y d within k ∙ elim (cases_Bool (k == i)) [
    | inl here ↦ ap (λ b. cond b (f y) (f (slice_index_or xs k d))) here ∙ is ∙ ap (λ j. f (slice_index_or xs j d)) (sym (eqb-true k i here))
    | inr away ↦ ap (λ b. cond b (f y) (f (slice_index_or xs k d))) away
  ]
