-- The number that the digits of a word represent.
use Rattle.std.proofs.Common.{◌≡◌, ℕ, ◌+◌, ◌-◌, ◌*◌, ◌^◌, ◌<◌, ◌≤◌, ◌&&◌, true, cond, List, [], ◌∷◌, None, Some, refl, sym, ap, ◌∙◌, inl, inr, arith, length}
use Rattle.std.specs.Prelude.{nat_lt}
use Rattle.std.specs.List.{list_all}
use Rattle.std.specs.Char.{is_ascii_digit, digit_value}
use Rattle.std.specs.Fmt.{decimal}
use Rattle.std.specs.Str.Parse.{digits_value, digits_value_after}
use Rattle.std.proofs.lemmas.Bool.{cases_Bool, and_parts, and_from, leb-true, ltb-true, lt-ltb}
use Rattle.std.proofs.lemmas.Fmt.{decimal_is_IsNumeral}
use Rattle.std.proofs.lemmas.Str.{digit_value_digit}
use Rattle.script_words.specs.Numbers.{is_digit, number_from, number_of}
use Rattle.script_words.specs.Laws.{NumbersAreDigits}

value_of_digit : (b : ℕ) → is_ascii_digit b ≡ true → digit_value b ≡ b - 48
value_of_digit b digit =
    let parts = and_parts _ _ digit in
    let bounds : (48 ≤ b) × (b ≤ 57) = (leb-true 48 b parts.0, leb-true b 57 parts.1) in
    omega (arith, digit_value_digit b bounds, bounds)

-- appending digits makes the number no smaller
grows : (n : ℕ) (bs : List ℕ) → n ≤ digits_value_after 10 n bs
grows n [] = omega arith
grows n (b ∷ bs) = omega (arith, grows (n * 10 + digit_value b) bs)

some_is : (m n : ℕ) → Some m ≡ Some n → m ≡ n
some_is m n h = cc

abbrev Writes : ℕ → List ℕ → ℕ → Type 0
Writes n bs m = (list_all is_ascii_digit bs ≡ true) × (digits_value_after 10 n bs ≡ m) × (m < 2 ^ 32)

written : (bs : List ℕ) (n m : ℕ) → n < 2 ^ 32 → number_from n bs ≡ Some m → Writes n bs m
unfolding number_from
written [] n m small h = let same = some_is n m h in (refl, same, omega (arith, same, small))
written (b ∷ bs) n m small h = elim (cases_Bool (is_digit b && nat_lt (n * 10 + (b - 48)) (2 ^ 32))) [
  | inl on ↦ (
      let both = and_parts (is_digit b) (nat_lt (n * 10 + (b - 48)) (2 ^ 32)) on in
      let value = value_of_digit b both.0 in
      let later = written bs (n * 10 + (b - 48)) m (ltb-true (n * 10 + (b - 48)) (2 ^ 32) both.1) (sym (ap (λ t. cond t (number_from (n * 10 + (b - 48)) bs) None) on) ∙ h) in
      (and_from (is_ascii_digit b) (list_all is_ascii_digit bs) both.0 later.0, ap (λ d. digits_value_after 10 (n * 10 + d) bs) value ∙ later.1, later.2))
  | inr off ↦ (let none : None ≡ Some m = sym (ap (λ t. cond t (number_from (n * 10 + (b - 48)) bs) None) off) ∙ h in cc)
]

read : (bs : List ℕ) (n m : ℕ) → Writes n bs m → number_from n bs ≡ Some m
unfolding number_from
read [] n m (all, is, small) = ap Some is
read (b ∷ bs) n m (all, is, small) =
    let both = and_parts (is_ascii_digit b) (list_all is_ascii_digit bs) all in
    let value = value_of_digit b both.0 in
    let next : digits_value_after 10 (n * 10 + (b - 48)) bs ≡ m = ap (λ d. digits_value_after 10 (n * 10 + d) bs) (sym value) ∙ is in
    let fits : n * 10 + (b - 48) < 2 ^ 32 = omega (arith, grows (n * 10 + (b - 48)) bs, next, small) in
    ap (λ t. cond t (number_from (n * 10 + (b - 48)) bs) None) (and_from (is_digit b) (nat_lt (n * 10 + (b - 48)) (2 ^ 32)) both.0 (lt-ltb (n * 10 + (b - 48)) (2 ^ 32) fits))
    ∙ read bs (n * 10 + (b - 48)) m (both.1, next, small)

pub numbers_are_digits : NumbersAreDigits
unfolding number_of
numbers_are_digits [] n = ((λ h. (let none : None ≡ Some n = h in cc)), (λ found. absurd (found.0 refl)))
numbers_are_digits (b ∷ bs) n = (
  (λ h. (let found = written (b ∷ bs) 0 n (omega arith) h in ((λ empty. cc), found.0, found.1, found.2))),
  (λ found. read (b ∷ bs) 0 n (found.1, found.2, found.3)),
)

none_long : (ds : List ℕ) → ds ≡ [] → 0 < length ds → ⊥
none_long [] none some = let below : 0 < 0 = some in omega (arith, below)
none_long (d ∷ ds) none some = absurd (cc)

-- a number's decimal digits are read as the number
pub decimal_is_read : (n : ℕ) → n < 2 ^ 32 → list_all is_ascii_digit (decimal n) ≡ true → number_of (decimal n) ≡ Some n
decimal_is_read n small digits =
    let numeral = decimal_is_IsNumeral n (omega (arith, small)) in
    let value : digits_value 10 (decimal n) ≡ n = numeral.1 in
    (numbers_are_digits (decimal n) n).1 ((λ none. none_long (decimal n) none numeral.0.0), digits, value, small)
