-- Searching a list for the first element that fails a condition.
use Rattle.std.proofs.Common.{◌≡◌, ℕ, ◌+◌, ◌<◌, ◌≤◌, List, [], ◌∷◌, ◌++◌, All, Contains, length, take, drop, get_or, sym, ap, subst, ◌∙◌}
use Rattle.std.proofs.lemmas.List.{drop_more, take_more, take_all, take-append-drop}
use Rattle.std.proofs.lemmas.List.Elements.{All-nil, All-cons, All-append, All-head, All-contains, All-contains_itself, Contains-append_right}
use Rattle.shared_admin.specs.Closing.{IsFirstNot}

module _ {A : Type 0} where
  -- a list at one of its indexes
  pub cut_at : (xs : List A) (index : ℕ) (x : A) → x ≡ get_or xs index x → index < length xs → xs ≡ take index xs ++ x ∷ drop (index + 1) xs
  cut_at xs index x is within = sym (take-append-drop index xs) ∙ ap (λ rest. take index xs ++ rest) (drop_more xs index x within ∙ ap (λ y. y ∷ drop (index + 1) xs) (sym is))

  pub one_taken : (xs : List A) (index : ℕ) (x : A) → x ≡ get_or xs index x → index < length xs → take (index + 1) xs ≡ take index xs ++ x ∷ []
  one_taken xs index x is within = take_more xs index x within ∙ ap (λ y. take index xs ++ y ∷ []) (sym is)

  module _ (P : A → Type 0) (xs : List A) (index : ℕ) (x : A) (is : x ≡ get_or xs index x) (within : index < length xs) (before : All P (take index xs)) where
    pub first_not : (¬ P x) → IsFirstNot P xs x
    first_not off = (take index xs, drop (index + 1) xs, cut_at xs index x is within, before, off)

    pub one_more : P x → All P (take (index + 1) xs)
    one_more here = subst (All P) (sym (one_taken xs index x is within)) (All-append P (take index xs) (x ∷ []) before (All-cons P x [] here (All-nil P)))

  pub all_are : (P : A → Type 0) (xs : List A) (index : ℕ) → length xs ≤ index → All P (take index xs) → All P xs
  all_are P xs index through before = subst (All P) (take_all index xs through) before

  -- what holds for all elements holds for one of them
  pub one_of_all : (P : A → Type 0) (xs before later : List A) (x : A) → xs ≡ before ++ x ∷ later → All P xs → P x
  one_of_all P xs before later x cut all =
      All-contains P (before ++ x ∷ later) x (subst (All P) cut all) (Contains-append_right before (x ∷ later) x (All-head (Contains (x ∷ later)) x later (All-contains_itself (x ∷ later))))

  pub not_all : (P : A → Type 0) (xs : List A) (x : A) → IsFirstNot P xs x → All P xs → ⊥
  not_all P xs x first all = first.4 (one_of_all P xs first.0 first.1 x first.2 all)
