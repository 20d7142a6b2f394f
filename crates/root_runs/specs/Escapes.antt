-- How bytes of any kind are shown to people: no terminal takes them for an order. console_codes(4).
use Rattle.std.specs.Prelude.{ℕ, zero, suc, ◌+◌, ◌-◌, ◌/◌, ◌%◌, Bool, ◌||◌, ◌&&◌, ◌==◌, nat_lt, nat_le, if◌then◌else◌, List, [], ◌∷◌, ◌++◌}
use Rattle.std.specs.Option.{option_map_or}
use Rattle.bstr.specs.Utf8.{Decoded, decoded}
use Prim.Native.Char.{code}

-- a hexadecimal digit, in lower case
abbrev pub hex_digit : ℕ → ℕ
hex_digit d = if nat_lt d 10 then d + code "0" else (d - 10) + code "a"

-- a byte as \xNN
abbrev pub hex_text : ℕ → List ℕ
hex_text b = code "\\" ∷ code "x" ∷ hex_digit (b / 16) ∷ hex_digit (b % 16) ∷ []

-- the characters that terminals take for orders: those below 32, 127, and 128 to 159
abbrev pub is_control : ℕ → Bool
is_control c = nat_lt c 32 || (nat_le 127 c && nat_lt c 160)

-- how many bytes a piece of a text has that is shown as it is; 0 for a control character, and for
-- what is no UTF-8
abbrev pub kept_by : Decoded → ℕ
kept_by piece = option_map_or (λ c. if is_control c then 0 else piece.size) piece.char 0

-- how many bytes at the front are one character that is shown as it is
abbrev pub kept_len : List ℕ → ℕ
kept_len bytes = kept_by (decoded bytes)

-- the same if this many of the first bytes are the rest of such a character
abbrev pub kept_first : ℕ → List ℕ → ℕ
kept_first n bytes = if n == 0 then kept_len bytes else n

-- a byte as it is shown, and those after it, if this many of them all belong to a character that is
-- shown as it is
abbrev pub before_rest : ℕ → ℕ → (ℕ → List ℕ) → List ℕ
before_rest zero b rest = hex_text b ++ rest 0
before_rest (suc n) b rest = b ∷ rest n

-- Bytes as they are shown, if this many of the first are the rest of a character that is shown as
-- it is: a character in UTF-8 that is no control character stays, and each other byte becomes \xNN.
unfoldable pub shown_after : ℕ → List ℕ → List ℕ
shown_after n [] = []
shown_after n (b ∷ bs) = before_rest (kept_first n (b ∷ bs)) b (λ m. shown_after m bs)

-- bytes as they are shown
abbrev pub shown : List ℕ → List ℕ
shown bytes = shown_after 0 bytes
