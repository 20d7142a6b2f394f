-- The lines of a file, as relations: systemd.syntax(7), "Introduction".
use Rattle.std.specs.Prelude.{◌≡◌, ◌≢◌, ◌↔◌, ◌⊎◌, ℕ, ◌==◌, Bool, false, List, [], ◌∷◌, ◌++◌, map, codes}
use Rattle.std.specs.List.{AllZip, list_any, flat_map}
use Rattle.std.specs.Str.Lines.{lines}
use Rattle.unit_file.specs.Lines.{joined_lines, logical_lines}
use Rattle.line_laws.specs.Blanks.{AreBlanks, IsStrippedTo}
use Prim.Native.Char.{code}

abbrev pub is_line_feed : ℕ → Bool
is_line_feed b = b == code "\n"

-- A text whose last byte isn't this one.
abbrev pub DoesNotEndIn : ℕ → List ℕ → Type 0
DoesNotEndIn b text = (front : List ℕ) → text ≢ front ++ b ∷ []

-- The physical lines of bytes.
pub data AreLinesOf : (bytes : List ℕ) (lines : List (List ℕ)) → Type 0 where
  NoLine : AreLinesOf [] []
  -- What follows the last LF is a line if it isn't empty; a CR at its end is part of it.
  LastLine : (line : List ℕ) → line ≢ [] → list_any is_line_feed line ≡ false → AreLinesOf line (line ∷ [])
  -- Any other line ends at LF,
  EndsAtLineFeed : (bytes line rest : List ℕ) (lines : List (List ℕ)) → bytes ≡ line ++ codes "\n" ++ rest → list_any is_line_feed line ≡ false → DoesNotEndIn (code "\r") line → AreLinesOf rest lines → AreLinesOf bytes (line ∷ lines)
  -- and a CR before that is part of the line's end.
  EndsAtReturn : (bytes line rest : List ℕ) (lines : List (List ℕ)) → bytes ≡ line ++ codes "\r\n" ++ rest → list_any is_line_feed line ≡ false → AreLinesOf rest lines → AreLinesOf bytes (line ∷ lines)

-- "Empty lines and lines starting with # or ; are ignored": blanks may be before these.
pub record IsComment (line : List ℕ) : Type 0 where
  pub blanks : List ℕ
  pub mark : ℕ
  pub rest : List ℕ
  pub is : line ≡ blanks ++ mark ∷ rest
  pub are_blanks : AreBlanks blanks
  pub marks : (mark ≡ code "#") ⊎ (mark ≡ code ";")

-- The lines that aren't comments.
pub data AreKept : (lines kept : List (List ℕ)) → Type 0 where
  NoMore : AreKept [] []
  Comment : (line : List ℕ) (lines kept : List (List ℕ)) → IsComment line → AreKept lines kept → AreKept (line ∷ lines) kept
  Other : (line : List ℕ) (lines kept : List (List ℕ)) → ¬ IsComment line → AreKept lines kept → AreKept (line ∷ lines) (line ∷ kept)

-- A text with a backslash after it, and with a space instead of the backslash.
abbrev pub continued : List ℕ → List ℕ
continued text = text ++ codes "\\"

abbrev pub spaced : List ℕ → List ℕ
spaced text = text ++ codes " "

-- "Lines ending in a backslash are concatenated with the following non-comment line while reading
-- and the backslash is replaced by a space character": lines that end in one, and then a line that
-- doesn't.
pub record AreJoinedTo (lines : List (List ℕ)) (line : List ℕ) : Type 0 where
  pub texts : List (List ℕ)
  pub last : List ℕ
  pub are : lines ≡ map continued texts ++ last ∷ []
  pub ends : DoesNotEndIn (code "\\") last
  pub is : line ≡ flat_map spaced texts ++ last

-- At the end of the file there may be no such line.
pub record AreLeftOpen (lines : List (List ℕ)) (line : List ℕ) : Type 0 where
  pub texts : List (List ℕ)
  pub some : texts ≢ []
  pub are : lines ≡ map continued texts
  pub is : line ≡ flat_map spaced texts

-- All lines are joined so, some after others.
pub data AreJoined : (lines joined : List (List ℕ)) → Type 0 where
  NoneLeft : AreJoined [] []
  OneJoined : (lines these rest : List (List ℕ)) (line : List ℕ) (joined : List (List ℕ)) → lines ≡ these ++ rest → AreJoinedTo these line → AreJoined rest joined → AreJoined lines (line ∷ joined)
  LastOpen : (lines : List (List ℕ)) (line : List ℕ) → AreLeftOpen lines line → AreJoined lines (line ∷ [])

-- The lines of a file as they are joined, without its comments.
pub record AreJoinedLinesOf (bytes : List ℕ) (joined : List (List ℕ)) : Type 0 where
  pub physical : List (List ℕ)
  pub kept : List (List ℕ)
  pub are_lines : AreLinesOf bytes physical
  pub are_kept : AreKept physical kept
  pub are_joined : AreJoined kept joined

-- The logical lines: the joined ones without the blanks around them.
pub record AreLogicalLinesOf (bytes : List ℕ) (logical : List (List ℕ)) : Type 0 where
  pub joined : List (List ℕ)
  pub are_joined : AreJoinedLinesOf bytes joined
  pub are_bare : AllZip IsStrippedTo joined logical

-- The lines that are read are those that a file has, and there are no others.
pub record LinesAreJoined : Type 0 where
  pub physical : (bytes : List ℕ) (ls : List (List ℕ)) → (lines bytes ≡ ls) ↔ AreLinesOf bytes ls
  pub joined : (bytes : List ℕ) (ls : List (List ℕ)) → (joined_lines bytes ≡ ls) ↔ AreJoinedLinesOf bytes ls
  pub logical : (bytes : List ℕ) (ls : List (List ℕ)) → (logical_lines bytes ≡ ls) ↔ AreLogicalLinesOf bytes ls
