-- For the proofs of this crate: a line that is read in pieces. No public contract cites it.
use Rattle.std.specs.Prelude.{◌≡◌, ℕ, ◌-◌, ◌<◌, List, ◌∷◌, [], ◌++◌, length, Bool, true, false}
use Rattle.byte_streams.specs.Streams.{HasNoLineEnd}
use Rattle.byte_streams.specs.Lines.{Front, Whole, Last, Long}
use Rattle.byte_streams.specs.declared.lines.Growth.{Growth}
use Rattle.byte_streams.specs.declared.lines.Growth.TheVariants as growths
use Prim.Native.Char.{code}

-- the line with these bytes in front of it
abbrev pub after_bytes : List ℕ → Front → Front
after_bytes bs (Whole line rest) = Whole (bs ++ line) rest
after_bytes bs (Last line) = Last (bs ++ line)
after_bytes bs Long = Long

-- A piece of a line is some bytes of it, with the line end if the line ends in this piece.
abbrev pub IsPiece : List ℕ → List ℕ → Bool → Type 0
IsPiece piece line true = HasNoLineEnd line × (piece ≡ line ++ (code "\n" ∷ []))
IsPiece piece line false = HasNoLineEnd line × (piece ≡ line)

-- A piece is appended to a line: the line then continues, or ends, or is too long.
abbrev pub AddsPiece : ℕ → (old new piece : List ℕ) → Growth → Type 0
AddsPiece limit old new piece growths.Further = HasNoLineEnd piece × (new ≡ old ++ piece)
AddsPiece limit old new piece growths.Whole = (line : List ℕ) × HasNoLineEnd line × (piece ≡ line ++ (code "\n" ∷ [])) × (new ≡ old ++ line)
AddsPiece limit old new piece growths.TooLong = HasNoLineEnd piece × (limit - length old < length piece)
