-- Digits, one after another, and the length that they represent.
use Rattle.std.proofs.Common.{◌≡◌, ℕ, zero, suc, ◌+◌, ◌-◌, ◌*◌, ◌^◌, ◌<◌, ◌≤◌, ◌==◌, min, true, not, List, [], ◌∷◌, None, Some, refl, sym, ap, ◌∙◌, length, drop, get_or, inl, inr, arith}
use Rattle.std.specs.Fmt.{decimal}
use Rattle.std.proofs.lemmas.Fmt.{digits_decimal, digits_value-decimal, first_decimal, decimal_nonempty, decimal-digits_value, length-decimal-le}
use Rattle.std.proofs.lemmas.Str.Parse.{IsDigitsTest, IsNumeralModel, numerals_by_value}
use Rattle.std.specs.List.{list_all}
use Rattle.std.specs.Char.{is_ascii_digit, digit_value}
use Rattle.std.specs.Str.Parse.{digits_value_after, digits_value}
use Rattle.std.proofs.lemmas.List.{drop_more, drop_all}
use Rattle.std.proofs.lemmas.Bool.{cases_Bool, and_parts, and_from, leb-true, le-leb, eqb-true, eq-eqb, false≢true}
use Rattle.std.proofs.lemmas.Str.{digit_value_digit}
use Rattle.link_tree.specs.EntryLines.{is_length, length_of}
use Rattle.link_tree.specs.Laws.{LengthsAreDecimals}

-- numbers from this one on are treated as equal
abbrev pub most : ℕ
most = 1048577

min_step : (n m d : ℕ) → min most n ≡ min most m → min most (n * 10 + d) ≡ min most (m * 10 + d)
min_step n m d h = omega (arith, h)

capped : (n m : ℕ) (ds : List ℕ) → min most n ≡ min most m → min most (digits_value_after 10 n ds) ≡ min most (digits_value_after 10 m ds)
capped n m [] h = h
capped n m (d ∷ ds) h = capped (n * 10 + digit_value d) (m * 10 + digit_value d) ds (min_step n m (digit_value d) h)

-- a digit is one of ten bytes
pub digit_bounds : (b : ℕ) → is_ascii_digit b ≡ true → (48 ≤ b) × (b ≤ 57)
digit_bounds b h = let parts = and_parts _ _ h in (leb-true 48 b parts.0, leb-true b 57 parts.1)

abbrev pub Goes : List ℕ → ℕ → ℕ → Type 0
Goes ds i n = (list_all is_ascii_digit (drop i ds) ≡ true) × (min most (digits_value_after 10 n (drop i ds)) ≡ min most (digits_value 10 ds))

module _ (ds : List ℕ) (i n : ℕ) (so_far : Goes ds i n) where
  pub value_ends : length ds ≤ i → n ≤ most → n ≡ min most (digits_value 10 ds)
  value_ends past few =
      let end : min most n ≡ min most (digits_value 10 ds) = ap (λ rest. min most (digits_value_after 10 n rest)) (sym (drop_all i ds past)) ∙ so_far.1 in
      omega (arith, end)

  module _ (within : i < length ds) where
    parts : (is_ascii_digit (get_or ds i 0) ≡ true) × (list_all is_ascii_digit (drop (i + 1) ds) ≡ true)
    parts = and_parts _ _ (ap (list_all is_ascii_digit) (sym (drop_more ds i 0 within)) ∙ so_far.0)

    pub next_digit : (48 ≤ get_or ds i 0) × (get_or ds i 0 ≤ 57)
    next_digit = digit_bounds (get_or ds i 0) parts.0

    pub value_goes : (m : ℕ) → m ≡ min (n * 10 + (get_or ds i 0 - 48)) most → Goes ds (i + 1) m
    value_goes m is =
        let digit : digit_value (get_or ds i 0) ≡ get_or ds i 0 - 48 = omega (arith, digit_value_digit (get_or ds i 0) next_digit, next_digit) in
        let alike : min most m ≡ min most (n * 10 + digit_value (get_or ds i 0)) = omega (arith, is, digit) in (
          parts.1,
          capped m (n * 10 + digit_value (get_or ds i 0)) (drop (i + 1) ds) alike
              ∙ ap (λ rest. min most (digits_value_after 10 n rest)) (sym (drop_more ds i 0 within)) ∙ so_far.1,
        )

pub length_digits : (text : List ℕ) → is_length text ≡ true → list_all is_ascii_digit text ≡ true
unfolding is_length
length_digits [] h = refl
length_digits (b ∷ bs) h = (and_parts _ _ h).0

digit_test : (b : ℕ) → 48 ≤ b → b ≤ 57 → is_ascii_digit b ≡ true
digit_test b low high = and_from _ _ (le-leb 48 b low) (le-leb b 57 high)

ascii_digits : IsDigitsTest (λ ds. list_all is_ascii_digit ds ≡ true)
ascii_digits = record {
  empty = refl;
  parts = λ b bs all. let parts = and_parts _ _ all in (digit_bounds b parts.0, parts.1);
  more = λ b bs digit all. and_from _ _ (digit_test b digit.0 digit.1) all;
}

-- texts of digits are the numerals of std
numerals : IsNumeralModel (λ ds. list_all is_ascii_digit ds ≡ true) (digits_value 10)
numerals = numerals_by_value (λ ds. list_all is_ascii_digit ds ≡ true) ascii_digits

pub decimal_digits : (n : ℕ) → n < 2 ^ 64 → list_all is_ascii_digit (decimal n) ≡ true
decimal_digits n fits = digits_decimal numerals n fits

length_from : (ds : List ℕ) → 0 < length ds → list_all is_ascii_digit ds ≡ true → (get_or ds 0 0 ≡ 48 → length ds ≡ 1) → is_length ds ≡ true
unfolding is_length
length_from [] some all lone = absurd (omega arith)
length_from (b ∷ []) some all lone = and_from _ _ all refl
length_from (b ∷ c ∷ cs) some all lone = elim (cases_Bool (b == 48)) [
  | inl zero_first ↦ absurd (omega (arith, lone (eqb-true b 48 zero_first)))
  | inr other ↦ and_from _ _ all (ap not other)
]

no_zero_before : (n : ℕ) → n < 2 ^ 64 → get_or (decimal n) 0 0 ≡ 48 → length (decimal n) ≡ 1
no_zero_before zero fits first = omega (arith, length-decimal-le 1 0 (omega arith) (omega arith) fits, decimal_nonempty 0 fits)
no_zero_before (suc n) fits first = absurd (omega (arith, first_decimal (suc n) (omega arith) fits, first))

pub length_of_decimal : (n : ℕ) → n < 2 ^ 64 → length_of (decimal n) ≡ Some n
length_of_decimal n fits =
    let is = length_from (decimal n) (decimal_nonempty n fits) (decimal_digits n fits) (no_zero_before n fits) in
    rw (is, digits_value-decimal numerals n fits) refl

-- conditions on the first digit of a length
record IsSpelled (text : List ℕ) : Type 0 where
  some : 0 < length text
  lone : get_or text 0 0 ≡ 48 → length text ≡ 1

spelled : (text : List ℕ) → is_length text ≡ true → IsSpelled text
unfolding is_length
spelled [] h = absurd (false≢true h)
spelled (b ∷ []) h = record { some = omega arith; lone = λ _. refl }
spelled (b ∷ c ∷ cs) h = record {
  some = omega arith;
  lone = λ first. absurd (false≢true (sym (ap not (eq-eqb b 48 first)) ∙ (and_parts _ _ h).1));
}

value_is : (text : List ℕ) (n : ℕ) → length_of text ≡ Some n → (is_length text ≡ true) × (digits_value 10 text ≡ n)
value_is text n h = elim (cases_Bool (is_length text)) [
  | inl is ↦ (is, some_is (digits_value 10 text) n (rw is at h))
  | inr other ↦ absurd (none_some n (rw other at h))
]
  where
    some_is : (m k : ℕ) → Some m ≡ Some k → m ≡ k
    some_is m k e = cc

    none_some : (k : ℕ) → None ≡ Some k → ⊥
    none_some k e = cc

pub lengths_are_decimals : LengthsAreDecimals
lengths_are_decimals text n fits = (there, λ is. ap length_of is ∙ length_of_decimal n fits)
  where
    there : length_of text ≡ Some n → text ≡ decimal n
    there h =
        let is = value_is text n h in
        let way = spelled text is.0 in
        let small : digits_value 10 text < 2 ^ 64 = omega (arith, is.1, fits) in
        sym (decimal-digits_value numerals text (length_digits text is.0) way.some way.lone small) ∙ ap decimal is.1
