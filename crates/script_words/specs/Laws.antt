-- Laws of words; each is the contract of a public function.
use Rattle.std.specs.Prelude.{◌≡◌, ◌≢◌, ◌↔◌, ◌^◌, ◌<◌, ℕ, true, List, [], Some}
use Rattle.std.specs.Char.{is_ascii_digit}
use Rattle.std.specs.List.{list_all}
use Rattle.std.specs.Str.Parse.{digits_value}
use Rattle.script_words.specs.Escapes.{spelled, text_of}
use Rattle.script_words.specs.Numbers.{number_of}
use Rattle.script_words.specs.Words.{is_word_byte}

-- If any bytes are escaped, reading the word returns them,
abbrev pub EscapedIsRead : Type 0
EscapedIsRead = (bytes : List ℕ) → text_of (spelled bytes) ≡ Some bytes

-- and the escaped bytes can be one word.
abbrev pub EscapedIsWord : Type 0
EscapedIsWord = (bytes : List ℕ) → list_all is_word_byte (spelled bytes) ≡ true

-- A word is a number exactly if all its bytes are digits, at least one, and their value is the
-- number, below 2^32.
abbrev pub NumbersAreDigits : Type 0
NumbersAreDigits = (word : List ℕ) (n : ℕ) → (number_of word ≡ Some n) ↔ ((word ≢ []) × (list_all is_ascii_digit word ≡ true) × (digits_value 10 word ≡ n) × (n < 2 ^ 32))
