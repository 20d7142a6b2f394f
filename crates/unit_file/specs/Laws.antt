-- Laws of unit files, each the contract of a public function.
use Rattle.std.specs.Prelude.{◌≡◌, ℕ, ◌==◌, Bool, true, false, not, List, [], ◌∷◌, ◌++◌, None, codes}
use Rattle.std.specs.List.{filter, list_any, last_or, slice_get}
use Rattle.std.specs.Option.{option_map_or}
use Rattle.std.specs.Str.Lines.{lines}
use Rattle.unit_file.specs.Lines.{ends_with, is_comment, logical_lines}
use Rattle.unit_file.specs.Install.{is_empty, opens_section, values, list_of}
use Rattle.unit_file.specs.Reading.{text_of, has_long_line}
use Prim.Native.Char.{code}

-- whether bytes end their last line
abbrev pub are_whole_lines : List ℕ → Bool
are_whole_lines [] = true
are_whole_lines (b ∷ bytes) = ends_with (code "\n") (b ∷ bytes)

-- whether the last line that isn't a comment ends in a backslash, and so continues on another
abbrev pub waits : List ℕ → Bool
waits bytes = option_map_or (ends_with (code "\\")) (last_or None (filter (λ line. not (is_comment line)) (lines bytes))) false

-- whether the first logical line opens a section
abbrev pub begins_with_section : List ℕ → Bool
begins_with_section bytes = option_map_or opens_section (slice_get (logical_lines bytes) 0) false

-- Two files ask for the same, and both or neither have a line that is too long.
pub record AreReadAlike (one other : List ℕ) : Type 0 where
  pub text : text_of one ≡ text_of other
  pub long : has_long_line one ≡ has_long_line other

-- A LF at the end of a file makes no difference, unless the byte before it is a CR,
abbrev pub LastLineFeed : Type 0
LastLineFeed = (bytes : List ℕ) → ends_with (code "\r") bytes ≡ false → AreReadAlike (bytes ++ codes "\n") bytes

-- and even then (except for the limit on a line), unless a backslash is before the CR: with the LF,
-- the backslash ends its line.
abbrev pub LastReturn : Type 0
LastReturn = (bytes : List ℕ) → ends_with (code "\\") bytes ≡ false → text_of (bytes ++ codes "\r\n") ≡ text_of (bytes ++ codes "\r")

-- A comment has no effect wherever its line is, whether or not the line before it continues.
abbrev pub CommentsSayNothing : Type 0
CommentsSayNothing = (before comment after : List ℕ) → are_whole_lines before ≡ true → is_comment comment ≡ true → list_any (λ b. b == code "\n") comment ≡ false → AreReadAlike (before ++ (comment ++ codes "\n" ++ after)) (before ++ after)

-- In two files that are concatenated, each key has the values of the first and then those of the
-- second, if neither a line nor a section of the first continues in the second.
abbrev pub ValuesAddUp : Type 0
ValuesAddUp = (one other key : List ℕ) → are_whole_lines one ≡ true → waits one ≡ false → begins_with_section other ≡ true → values key (logical_lines (one ++ other)) ≡ values key (logical_lines one) ++ values key (logical_lines other)

-- So a list has the words of both, unless the second empties it.
abbrev pub ListsAddUp : Type 0
ListsAddUp = (first second : List (List ℕ)) → (list_any is_empty second ≡ false → list_of (first ++ second) ≡ list_of first ++ list_of second) × (list_any is_empty second ≡ true → list_of (first ++ second) ≡ list_of second)
