-- Any bytes as one word. `unescaped` processes the word byte by byte; the law `EscapedIsRead`
-- (Laws.antt) states its result for any escaped bytes.
use Rattle.std.specs.Prelude.{ℕ, Bool, true, false, ◌==◌, if◌then◌else◌, List, [], ◌∷◌, Option, Some, None, codes}
use Rattle.std.specs.List.{flat_map}
use Prim.Native.Char.{code}

abbrev pub is_backslash : ℕ → Bool
is_backslash b = b == code "\\"

-- the byte that a backslash and the byte after it represent, if they represent any
abbrev pub meant : ℕ → Option ℕ
meant b =
    if b == code "n" then Some (code "\n")
    else if b == code "t" then Some (code "\t")
    else if b == code "s" then Some (code " ")
    else if is_backslash b then Some b
    else None

-- one byte in front of others, if all are known
abbrev pub before : Option ℕ → Option (List ℕ) → Option (List ℕ)
before (Some b) (Some bs) = Some (b ∷ bs)
before (Some b) None = None
before None bs = None

-- the bytes that a text represents; with `true`, those of a text whose first byte has a backslash
-- before it. A backslash is allowed only before a byte that has a meaning with it
unfoldable pub unescaped : Bool → List ℕ → Option (List ℕ)
unescaped false [] = Some []
unescaped false (b ∷ bs) = if is_backslash b then unescaped true bs else before (Some b) (unescaped false bs)
unescaped true [] = None
unescaped true (b ∷ bs) = before (meant b) (unescaped false bs)

-- the bytes that a word represents
abbrev pub text_of : List ℕ → Option (List ℕ)
text_of word = unescaped false word

-- how a byte is escaped, so that it can be part of a word
abbrev pub escaped : ℕ → List ℕ
escaped b =
    if b == code "\n" then codes "\\n"
    else if b == code "\t" then codes "\\t"
    else if b == code " " then codes "\\s"
    else if is_backslash b then codes "\\\\"
    else b ∷ []

-- bytes as a word
abbrev pub spelled : List ℕ → List ℕ
spelled bytes = flat_map escaped bytes
