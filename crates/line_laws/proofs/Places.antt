-- The place of the first element that passes a test.
use Rattle.std.proofs.Common.{◌≡◌, refl, ℕ, ◌+◌, Bool, true, false, not, nat_lt, cond, List, [], ◌∷◌, ◌++◌, length, Some, None, position, ap, ◌∙◌, arith, length-append}
use Rattle.std.specs.List.{list_any, position_or_len}
use Rattle.std.proofs.lemmas.Bool.{or_parts, lt-ltb, le-ltb}

module _ (p : ℕ → Bool) where
  length_none : (text : List ℕ) → list_any p text ≡ false → position_or_len p text ≡ length text
  length_none [] none = refl
  length_none (x ∷ xs) none =
      let parts = or_parts (p x) (list_any p xs) none in
      ap (λ t. cond (not t) (1 + position_or_len p xs) 0) parts.0 ∙ omega (arith, length_none xs parts.1)

  length_at : (left : List ℕ) (x : ℕ) (right : List ℕ) → list_any p left ≡ false → p x ≡ true → position_or_len p (left ++ x ∷ right) ≡ length left
  length_at [] x right none passes = ap (λ t. cond (not t) (1 + position_or_len p right) 0) passes
  length_at (y ∷ ys) x right none passes =
      let parts = or_parts (p y) (list_any p ys) none in
      ap (λ t. cond (not t) (1 + position_or_len p (ys ++ x ∷ right)) 0) parts.0 ∙ omega (arith, length_at ys x right parts.1 passes)

  pub position_none : (text : List ℕ) → list_any p text ≡ false → position p text ≡ None
  position_none text none =
      let past : nat_lt (position_or_len p text) (length text) ≡ false = ap (λ n. nat_lt n (length text)) (length_none text none) ∙ le-ltb (length text) (length text) (omega arith) in
      ap (λ t. cond t (Some (position_or_len p text)) None) past

  pub position_at : (left : List ℕ) (x : ℕ) (right : List ℕ) → list_any p left ≡ false → p x ≡ true → position p (left ++ x ∷ right) ≡ Some (length left)
  position_at left x right none passes =
      let text = left ++ x ∷ right in
      let within : nat_lt (length left) (length text) ≡ true = lt-ltb (length left) (length text) (omega (arith, length-append left (x ∷ right))) in
      ap (λ n. cond (nat_lt n (length text)) (Some n) None) (length_at left x right none passes) ∙ ap (λ t. cond t (Some (length left)) None) within
