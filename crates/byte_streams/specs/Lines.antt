-- Lines of bytes, one after another: systemd.syntax(7). A line ends at LF.
use Rattle.std.specs.Prelude.{◌≡◌, ℕ, ◌-◌, ◌==◌, if◌then◌else◌, List, [], ◌∷◌, Option, Some, Result, Ok, Err}
use Rattle.byte_streams.specs.declared.lines.Line.{Line}
use Rattle.byte_streams.specs.declared.lines.Line.TheVariants as lines
use Rattle.byte_streams.specs.declared.read_error.ReadError.{ReadError}
use Rattle.byte_streams.specs.declared.read_error.ReadError.TheVariants as errors
use Prim.Native.Char.{code}

-- What is at the front of some bytes: a line and what follows its end, a last line without an end,
-- or too long a line.
pub data Front : Type 0 where
  Whole : (line rest : List ℕ) → Front
  Last : (line : List ℕ) → Front
  Long : Front

-- the line with one more byte in front of it
abbrev pub after_byte : ℕ → Front → Front
after_byte b (Whole line rest) = Whole (b ∷ line) rest
after_byte b (Last line) = Last (b ∷ line)
after_byte b Long = Long

-- the line at the front, of at most N bytes before its end
unfoldable pub front_line : ℕ → List ℕ → Front
front_line room [] = Last []
front_line room (b ∷ bs) =
    if b == code "\n" then Whole [] bs
    else if room == 0 then Long
    else after_byte b (front_line (room - 1) bs)

-- A line that was read is the one at the front, and the bytes after it remain.
abbrev pub IsFront : Line → Option (List ℕ) → Front → Type 0
IsFront (lines.Whole text) left (Whole line rest) = (text.items ≡ line) × (left ≡ Some rest)
IsFront (lines.Last text) left (Last line) = (text.items ≡ line) × (left ≡ Some [])
IsFront line left front = ⊥

-- The line at the front was read, or the error is that of a line that is too long, unless the
-- source failed or memory ran out.
abbrev pub IsLineOf : {F : Type 0} → F → Option (List ℕ) → Result Line (ReadError F) → Front → Type 0
IsLineOf too_long left (Ok line) front = IsFront line left front
IsLineOf too_long left (Err (errors.Fault fault)) front = (fault ≡ too_long) × (front ≡ Long)
IsLineOf too_long left (Err errors.ReadFault) front = Unit {0}
IsLineOf too_long left (Err errors.OutOfMemory) front = Unit {0}

-- the reading of a line, of at most N bytes, from the remaining bytes, if these are known
abbrev pub ReadsLine : {F : Type 0} → ℕ → F → Option (List ℕ) → Option (List ℕ) → Result Line (ReadError F) → Type 0
ReadsLine limit too_long old new result = (bytes : List ℕ) → old ≡ Some bytes → IsLineOf too_long new result (front_line limit bytes)
