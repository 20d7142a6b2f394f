-- Words with specifiers, piece by piece: systemd.unit(5), "Specifiers".
use Rattle.std.specs.Prelude.{◌≡◌, ◌≢◌, ◌↔◌, ℕ, List, [], ◌∷◌, ◌++◌, Some}
use Rattle.unit_name.specs.Specifiers.{specifier, expansion}
use Prim.Native.Char.{code}

-- A word consists of pieces: bytes other than %, and specifiers, each a % and a letter.
pub data Piece : Type 0 where
  Byte : ℕ → Piece
  Specifier : ℕ → Piece

abbrev pub piece_text : Piece → List ℕ
piece_text (Byte b) = b ∷ []
piece_text (Specifier letter) = code "%" ∷ letter ∷ []

-- The value of a byte is the byte itself, and the name determines the value of a specifier.
abbrev pub StandsFor : List ℕ → Piece → List ℕ → Type 0
StandsFor name (Byte b) text = (b ≢ code "%") × (text ≡ b ∷ [])
StandsFor name (Specifier letter) text = specifier name letter ≡ Some text

-- A word consists of these pieces, and their values, one after another, make up the text.
abbrev pub StandFor : List ℕ → List Piece → (word text : List ℕ) → Type 0
StandFor name [] word text = (word ≡ []) × (text ≡ [])
StandFor name (piece ∷ pieces) word text =
    (rest first more : List ℕ) × (word ≡ piece_text piece ++ rest) × StandsFor name piece first × (text ≡ first ++ more) × StandFor name pieces rest more

-- A word expands to a text exactly if it consists of pieces whose values make up the text.
abbrev pub WordsAreExpanded : Type 0
WordsAreExpanded = (name word text : List ℕ) → (expansion name word ≡ Some text) ↔ ((pieces : List Piece) × StandFor name pieces word text)
