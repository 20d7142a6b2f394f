-- The names of operators.
use Rattle.std.specs.Prelude.{ℕ, Bool, ◌||◌, ◌&&◌, ◌==◌, nat_lt, nat_le, List, ◌++◌, ◌-◌, length, replicate}
use Rattle.std.specs.List.{list_all}
use Prim.Native.Char.{code}

-- a small letter, a digit, or -
unfoldable pub is_operator_byte : ℕ → Bool
is_operator_byte b = (nat_le (code "a") b && nat_le b (code "z")) || (nat_le (code "0") b && nat_le b (code "9")) || b == code "-"

-- 1 to 32 of these
unfoldable pub is_operator : List ℕ → Bool
is_operator text = nat_lt 0 (length text) && nat_le (length text) 32 && list_all is_operator_byte text

-- a name in a field of 32 bytes, padded with zeros
abbrev pub padded : List ℕ → List ℕ
padded text = text ++ replicate (32 - length text) 0
