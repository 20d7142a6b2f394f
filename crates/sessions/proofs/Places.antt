-- The index of an operator in a list.
use Rattle.std.proofs.Common.{◌≡◌, ℕ, zero, suc, ◌+◌, ◌<◌, ◌≤◌, Bool, true, false, List, [], ◌∷◌, Some, length, drop, slice_get, get_or, refl, sym, ap, ◌∙◌, arith}
use Rattle.std.specs.Prelude.{◌||◌}
use Rattle.std.specs.Str.{bytes_eq}
use Rattle.std.proofs.lemmas.Bool.{true≢false}
use Rattle.std.proofs.lemmas.List.{drop_more}
use Rattle.std.proofs.lemmas.Option.{slice_get_read}
use Rattle.std.proofs.lemmas.Slice.Eq.{bytes_eq-Decides}
use Rattle.shared_admin.specs.Sharing.{is_among}

-- what a test of a name's text means for the name
pub by_text : (text operator one : List ℕ) (test said : Bool) → text ≡ operator → test ≡ bytes_eq text one → test ≡ said → bytes_eq operator one ≡ said
by_text text operator one test said is tests here = ap (λ (t : List ℕ). bytes_eq t one) (sym is) ∙ sym tests ∙ here

none_left : (all : List (List ℕ)) (place : ℕ) → length all ≤ place → drop place all ≡ []
none_left [] zero h = refl
none_left [] (suc place) h = refl
none_left (x ∷ xs) zero h = absurd (omega arith)
none_left (x ∷ xs) (suc place) h = none_left xs place (omega arith)

module _ (all : List (List ℕ)) (operator : List ℕ) (place : ℕ) where
  module _ (one : List ℕ) (is : one ≡ get_or all place one) (within : place < length all) where
    pub is_there : bytes_eq operator one ≡ true → slice_get all place ≡ Some operator
    is_there here = slice_get_read all (length all) place one refl within is ∙ ap (λ (o : List ℕ). Some o) (sym ((bytes_eq-Decides operator one).0 here))

    pub is_later : bytes_eq operator one ≡ false → is_among (drop place all) operator ≡ true → is_among (drop (place + 1) all) operator ≡ true
    is_later off among =
        sym (ap (λ b. b || is_among (drop (place + 1) all) operator) off)
        ∙ sym (ap (λ (o : List ℕ). is_among (o ∷ drop (place + 1) all) operator) (sym is))
        ∙ sym (ap (λ (rest : List (List ℕ)). is_among rest operator) (drop_more all place one within))
        ∙ among

  pub is_none : length all ≤ place → is_among (drop place all) operator ≡ true → ⊥
  is_none through among = true≢false (sym among ∙ ap (λ (rest : List (List ℕ)). is_among rest operator) (none_left all place through))
