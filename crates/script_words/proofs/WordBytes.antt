-- The bytes of words, and lines that are cut at their spaces.
use Rattle.std.proofs.Common.{◌≡◌, ◌==◌, ◌&&◌, ℕ, Bool, true, false, List, [], ◌∷◌, ◌++◌, codes, refl, sym, ap, ◌∙◌, inl, inr}
use Rattle.std.specs.Prelude.{not}
use Rattle.std.specs.List.{list_all, slice_split}
use Rattle.std.proofs.lemmas.Bool.{cases_Bool, and_parts, false≢true}
use Rattle.std.proofs.lemmas.Bool.Decides.{Decides-eqb}
use Rattle.script_words.specs.Words.{is_space, is_line_byte, is_word_byte}

no_space : (b : ℕ) (bs : List ℕ) → list_all is_word_byte (b ∷ bs) ≡ true → (is_space b ≡ false) × (list_all is_word_byte bs ≡ true)
no_space b bs h =
    let parts = and_parts (is_word_byte b) (list_all is_word_byte bs) h in
    (of_not (is_space b) _ parts.0, parts.1)
  where
    of_not : (s l : Bool) → (not s && l) ≡ true → s ≡ false
    of_not true l h = absurd (false≢true h)
    of_not false l h = refl

-- a word before a space is the first part
pub split_word : (word rest : List ℕ) → list_all is_word_byte word ≡ true → slice_split is_space (word ++ (codes " " ++ rest)) ≡ word ∷ slice_split is_space rest
split_word [] rest h = refl
split_word (b ∷ word) rest h = let here = no_space b word h in rw here.0 (rw (split_word word rest here.1) refl)

pub split_last : (word : List ℕ) → list_all is_word_byte word ≡ true → slice_split is_space word ≡ word ∷ []
split_last [] h = refl
split_last (b ∷ word) h = let here = no_space b word h in rw here.0 (rw (split_last word here.1) refl)

-- a byte that passes a test is none that doesn't
pub differs : (test : ℕ → Bool) (b c : ℕ) → test b ≡ true → test c ≡ false → (b == c) ≡ false
differs test b c on off = elim (cases_Bool (b == c)) [
  | inl same ↦ absurd (false≢true (sym off ∙ ap test (sym ((Decides-eqb b c).0 same)) ∙ on))
  | inr other ↦ other
]

pub word_byte : (test : ℕ → Bool) → test 32 ≡ false → test 10 ≡ false → (b : ℕ) → test b ≡ true → is_word_byte b ≡ true
word_byte test space end b is = rw (differs test b 32 is space) (rw (differs test b 10 is end) refl)

pub word_bytes : (test : ℕ → Bool) → test 32 ≡ false → test 10 ≡ false → (bytes : List ℕ) → list_all test bytes ≡ true → list_all is_word_byte bytes ≡ true
word_bytes test space end [] are = refl
word_bytes test space end (b ∷ bytes) are =
    let parts = and_parts (test b) (list_all test bytes) are in
    rw (word_byte test space end b parts.0) (word_bytes test space end bytes parts.1)

-- bytes of words are bytes of lines
pub line_bytes : (bytes : List ℕ) → list_all is_word_byte bytes ≡ true → list_all is_line_byte bytes ≡ true
line_bytes [] are = refl
line_bytes (b ∷ bytes) are =
    let parts = and_parts (is_word_byte b) (list_all is_word_byte bytes) are in
    let this : is_line_byte b ≡ true = (and_parts (not (is_space b)) (is_line_byte b) parts.0).1 in
    rw this (line_bytes bytes parts.1)
