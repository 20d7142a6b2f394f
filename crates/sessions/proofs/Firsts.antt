-- Searching a list for the first element that fails a condition.
use Rattle.std.proofs.Common.{◌≡◌, ℕ, ◌+◌, ◌<◌, ◌≤◌, List, [], ◌∷◌, ◌++◌, All, length, take, drop, get_or, sym, ap, subst, ◌∙◌}
use Rattle.std.proofs.lemmas.List.{drop_more, take_more, take_all, take-append-drop}
use Rattle.std.proofs.lemmas.List.Elements.{All-nil, All-cons, All-append}
use Rattle.shared_admin.specs.Closing.{IsFirstNot}

module _ {A : Type 0} where
  module _ (P : A → Type 0) (xs : List A) (index : ℕ) (x : A) (is : x ≡ get_or xs index x) (within : index < length xs) (before : All P (take index xs)) where
    pub first_not : (¬ P x) → IsFirstNot P xs x
    first_not off = (
      take index xs,
      drop (index + 1) xs,
      sym (take-append-drop index xs) ∙ ap (λ rest. take index xs ++ rest) (drop_more xs index x within ∙ ap (λ y. y ∷ drop (index + 1) xs) (sym is)),
      before,
      off,
    )

    pub one_more : P x → All P (take (index + 1) xs)
    one_more here =
        subst (All P) (sym (take_more xs index x within ∙ ap (λ y. take index xs ++ y ∷ []) (sym is)))
        (All-append P (take index xs) (x ∷ []) before (All-cons P x [] here (All-nil P)))

  pub all_are : (P : A → Type 0) (xs : List A) (index : ℕ) → length xs ≤ index → All P (take index xs) → All P xs
  all_are P xs index through before = subst (All P) (take_all index xs through) before
