-- The logical lines of a unit file: systemd.syntax(7), "Introduction".
use Rattle.std.specs.Prelude.{ℕ, ◌-◌, Bool, false, not, ◌||◌, ◌==◌, if◌then◌else◌, List, [], ◌∷◌, ◌++◌, length, take, drop, map, codes}
use Rattle.std.specs.List.{slice_get, filter, find, prefix_len, suffix_len}
use Rattle.std.specs.Option.{option_map_or}
use Rattle.std.specs.Str.Lines.{lines}
use Prim.Native.Char.{code}

-- a space, a TAB or a CR
abbrev pub is_blank : ℕ → Bool
is_blank b = b == code " " || b == code "\t" || b == code "\r"

-- the first byte, and the last one, are this one
unfoldable pub begins_with : ℕ → List ℕ → Bool
begins_with b text = option_map_or (λ first. first == b) (slice_get text 0) false

unfoldable pub ends_with : ℕ → List ℕ → Bool
ends_with b text = option_map_or (λ last. last == b) (slice_get text (length text - 1)) false

-- the text without the blanks that it begins with, and without those at both ends
abbrev pub without_leading : List ℕ → List ℕ
without_leading text = drop (prefix_len is_blank text) text

abbrev pub without_trailing : List ℕ → List ℕ
without_trailing text = take (length text - suffix_len is_blank text) text

unfoldable pub stripped : List ℕ → List ℕ
stripped text = without_trailing (without_leading text)

-- "Empty lines and lines starting with # or ; are ignored": blanks may be before these.
unfoldable pub is_comment : List ℕ → Bool
is_comment line = option_map_or (λ b. b == code "#" || b == code ";") (find (λ b. not (is_blank b)) line) false

-- a text put before the first of these lines; as a line of its own if there are none
abbrev pub onto_next : List ℕ → List (List ℕ) → List (List ℕ)
onto_next text [] = text ∷ []
onto_next text (next ∷ more) = (text ++ next) ∷ more

-- "Lines ending in a backslash are concatenated with the following non-comment line while reading
-- and the backslash is replaced by a space character."
abbrev pub is_continued : List ℕ → Bool
is_continued line = ends_with (code "\\") line

abbrev pub without_last : List ℕ → List ℕ
without_last line = take (length line - 1) line

unfoldable pub joined : List (List ℕ) → List (List ℕ)
joined [] = []
joined (line ∷ rest) =
    if is_continued line then onto_next (without_last line ++ codes " ") (joined rest)
    else line ∷ joined rest

-- The lines as they are joined. A line ends at LF, and one CR before that is part of the line's
-- end; what follows the last LF is a line if it isn't empty (std's `lines`). Comments are dropped
-- wherever they are.
abbrev pub joined_lines : List ℕ → List (List ℕ)
joined_lines bytes = joined (filter (λ line. not (is_comment line)) (lines bytes))

-- the logical lines
abbrev pub logical_lines : List ℕ → List (List ℕ)
logical_lines bytes = map stripped (joined_lines bytes)
