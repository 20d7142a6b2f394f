-- The number that a word represents. The law `NumbersAreDigits` (Laws.antt) states it for the word
-- as a whole.
use Rattle.std.specs.Prelude.{ℕ, ◌+◌, ◌*◌, ◌-◌, ◌^◌, Bool, ◌&&◌, nat_lt, nat_le, if◌then◌else◌, List, [], ◌∷◌, Option, Some, None}
use Rattle.script_words.specs.Words.{is_word}
use Prim.Native.Char.{code}

abbrev pub is_digit : ℕ → Bool
is_digit b = nat_le (code "0") b && nat_le b (code "9")

-- the number whose decimal digits are those of n followed by these, if it is below 2^32
unfoldable pub number_from : ℕ → List ℕ → Option ℕ
number_from n [] = Some n
number_from n (b ∷ bs) = if is_digit b && nat_lt (n * 10 + (b - code "0")) (2 ^ 32) then number_from (n * 10 + (b - code "0")) bs else None

-- the number that a word of digits represents
unfoldable pub number_of : List ℕ → Option ℕ
number_of word = if is_word word then number_from 0 word else None
