-- The bytes in the parts of a line: none is a space or a line end.
use Rattle.std.proofs.Common.{◌≡◌, ◌==◌, ◌<◌, ◌^◌, ℕ, zero, suc, Bool, true, false, cond, List, [], ◌∷◌, ◌++◌, codes, length, map, refl, sym, ap, subst, ◌∙◌, inl, inr, arith, slice_index}
use Rattle.std.specs.Char.{is_ascii_digit}
use Rattle.std.specs.Fmt.{decimal}
use Rattle.std.specs.List.{list_all}
use Rattle.std.specs.Str.{bytes_eq}
use Rattle.std.proofs.lemmas.Bool.{cases_Bool, and_parts, false≢true, eqb-true, eq-eqb}
use Rattle.hex.specs.Hex.{encode_with, encode_lower, lower_digits}
use Rattle.link_tree.proofs.Lengths.{decimal_digits}
use Rattle.script_words.specs.Words.{is_word_byte}
use Rattle.script_words.proofs.WordBytes.{word_byte, word_bytes}
use Rattle.kept_texts.specs.Values.{form_of, has_form, is_time}

-- equal bytes pass the test of equality, and only these do
pub bytes_same : (xs : List ℕ) → bytes_eq xs xs ≡ true
bytes_same [] = refl
bytes_same (x ∷ xs) = rw (eq-eqb x x refl) (bytes_same xs)

pub same_bytes : (xs ys : List ℕ) → bytes_eq xs ys ≡ true → xs ≡ ys
same_bytes [] [] h = refl
same_bytes [] (y ∷ ys) h = absurd (false≢true h)
same_bytes (x ∷ xs) [] h = absurd (false≢true h)
same_bytes (x ∷ xs) (y ∷ ys) h =
    let parts = and_parts (x == y) (bytes_eq xs ys) h in
    let first : x ≡ y = eqb-true x y parts.0 in
    let rest : xs ≡ ys = same_bytes xs ys parts.1 in
    cc

pub decimal_is_part : (n : ℕ) → n < 2 ^ 32 → list_all is_word_byte (decimal n) ≡ true
decimal_is_part n small = word_bytes is_ascii_digit refl refl (decimal n) (decimal_digits n (omega (arith, small)))

digit_is_word : (digits : List ℕ) (i : ℕ) → list_all is_word_byte digits ≡ true → is_word_byte (slice_index digits i) ≡ true
digit_is_word [] i are = refl
digit_is_word (d ∷ digits) zero are = (and_parts (is_word_byte d) (list_all is_word_byte digits) are).0
digit_is_word (d ∷ digits) (suc i) are = digit_is_word digits i (and_parts (is_word_byte d) (list_all is_word_byte digits) are).1

hex_digits_are_words : (digits : List ℕ) → list_all is_word_byte digits ≡ true → (bytes : List ℕ) → list_all is_word_byte (encode_with digits bytes) ≡ true
unfolding encode_with
hex_digits_are_words digits are [] = refl
hex_digits_are_words digits are (b ∷ bytes) =
    rw (digit_is_word digits _ are) (rw (digit_is_word digits _ are) (hex_digits_are_words digits are bytes))

pub hex_is_part : (bytes : List ℕ) → list_all is_word_byte (encode_lower bytes) ≡ true
hex_is_part bytes = hex_digits_are_words lower_digits refl bytes

form_is_word : (b f : ℕ) → form_of b ≡ f → is_word_byte f ≡ true → is_word_byte b ≡ true
form_is_word b f is word = elim (cases_Bool (is_ascii_digit b)) [
  | inl digit ↦ word_byte is_ascii_digit refl refl b digit
  | inr other ↦ let same : b ≡ f = ap (λ (t : Bool). cond t 48 b) (sym other) ∙ is in subst (λ (k : ℕ). is_word_byte k ≡ true) (sym same) word
]

forms_are_words : (text form : List ℕ) → map form_of text ≡ form → list_all is_word_byte form ≡ true → list_all is_word_byte text ≡ true
forms_are_words [] form is are = refl
forms_are_words (b ∷ text) [] is are = absurd (cc)
forms_are_words (b ∷ text) (f ∷ form) is are =
    let first : form_of b ≡ f = cc in
    let rest : map form_of text ≡ form = cc in
    let parts = and_parts (is_word_byte f) (list_all is_word_byte form) are in
    rw (form_is_word b f first parts.0) (forms_are_words text form rest parts.1)

pub time_is_part : (text : List ℕ) → is_time text ≡ true → list_all is_word_byte text ≡ true
time_is_part text is =
    forms_are_words text (codes "0000-00-00T00:00:00Z")
    (same_bytes (map form_of text) (codes "0000-00-00T00:00:00Z") (and_parts (length text == 20) (has_form text) is).1) refl

pub append_is_part : (xs ys : List ℕ) → list_all is_word_byte xs ≡ true → list_all is_word_byte ys ≡ true → list_all is_word_byte (xs ++ ys) ≡ true
append_is_part [] ys these those = those
append_is_part (x ∷ xs) ys these those =
    let parts = and_parts (is_word_byte x) (list_all is_word_byte xs) these in
    rw parts.0 (append_is_part xs ys parts.1 those)
