-- What words and lines consist of, and lines one after another.
use Rattle.std.specs.Prelude.{ℕ, Bool, true, false, not, ◌&&◌, ◌==◌, List, [], ◌∷◌, ◌++◌, codes}
use Rattle.std.specs.List.{flat_map}
use Prim.Native.Char.{code}

abbrev pub is_word : List ℕ → Bool
is_word [] = false
is_word (b ∷ bs) = true

abbrev pub is_space : ℕ → Bool
is_space b = b == code " "

abbrev pub is_line_byte : ℕ → Bool
is_line_byte b = not (b == code "\n")

-- no space and no line end, so that the byte can be part of a word of a line
abbrev pub is_word_byte : ℕ → Bool
is_word_byte b = not (is_space b) && is_line_byte b

-- lines, each with its end
abbrev pub lines_text : List (List ℕ) → List ℕ
lines_text lines = flat_map (λ line. line ++ codes "\n") lines
