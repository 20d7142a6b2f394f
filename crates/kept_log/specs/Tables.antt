-- The table of a log.
use Rattle.std.specs.Prelude.{ℕ, ◌-◌, ◌==◌, max, min, nat_le, nat_lt, Bool, true, false, ◌||◌, if◌then◌else◌, List, [], ◌∷◌, ◌++◌, length, replicate, fold, Option, Some, None, codes}
use Rattle.std.specs.Fmt.{decimal}
use Rattle.std.specs.List.{filter, flat_map}
use Rattle.kept_log.specs.declared.table.LogLine.{LogLine}
use Rattle.kept_log.specs.declared.table.Widths.{Widths}
use Prim.Native.Char.{code}

-- whether a byte of UTF-8 begins a character
abbrev pub begins_char : ℕ → Bool
begins_char b = nat_lt b 128 || nat_le 192 b

-- how many characters a text has
abbrev pub width : List ℕ → ℕ
width text = length (filter begins_char text)

-- its first characters, at most this many
abbrev pub front : ℕ → List ℕ → List ℕ
front n [] = []
front n (b ∷ bs) = if begins_char b then (if n == 0 then [] else b ∷ front (n - 1) bs) else b ∷ front n bs

-- a text of at most this width: one that is wider is cut, and ends in `...`
abbrev pub cut : ℕ → List ℕ → List ℕ
cut wide text = if nat_le (width text) wide then text else front (wide - 3) text ++ codes "..."

abbrev pub blanks : ℕ → List ℕ
blanks n = replicate n (code " ")

-- a text at the left of its column, and a blank
abbrev pub left : (wide : ℕ) → List ℕ → List ℕ
left wide text = text ++ blanks (wide - width text) ++ codes " "

-- a text at the right of its column
abbrev pub right : (wide : ℕ) → List ℕ → List ℕ
right wide text = blanks (wide - width text) ++ text

-- The width of a column: that of its widest text, or this, if that is more.
abbrev pub number_width : (least : ℕ) → List LogLine → ℕ
number_width least lines = fold (λ wide line. max wide (width (decimal line.number))) least lines

abbrev pub time_width : (least : ℕ) → List LogLine → ℕ
time_width least lines = fold (λ wide line. max wide (width line.time.items)) least lines

abbrev pub operator_width : (least : ℕ) → List LogLine → ℕ
operator_width least lines = fold (λ wide line. max wide (width line.operator)) least lines

abbrev pub call_width : (least : ℕ) → List LogLine → ℕ
call_width least lines = fold (λ wide line. max wide (width line.call.items)) least lines

-- What a table of N columns leaves for calls, but at least 12. The other columns, and the blanks
-- between columns, have 21 besides those of the first three.
abbrev pub room : (columns number time operator : ℕ) → ℕ
room columns number time operator = max 12 (columns - number - time - operator - 21)

-- the width of calls: that of the widest, or what is left for them, if that is less
abbrev pub fitted : Option ℕ → (number time operator call : ℕ) → ℕ
fitted None number time operator call = call
fitted (Some columns) number time operator call = min call (room columns number time operator)

abbrev pub widths_with : Option ℕ → (number time operator call : ℕ) → Widths
widths_with columns number time operator call = record { number = number; time = time; operator = operator; call = fitted columns number time operator call }

-- Columns are at least as wide as their heads.
abbrev pub widths_of : Option ℕ → List LogLine → Widths
widths_of columns lines = widths_with columns (number_width 3 lines) (time_width 4 lines) (operator_width 8 lines) (call_width 4 lines)

abbrev pub undone_text : Option ℕ → List ℕ
undone_text None = []
undone_text (Some by) = codes " " ++ right 9 (decimal by)

-- the line of a row
abbrev pub line_text : Widths → LogLine → List ℕ
line_text widths line =
    right widths.number (decimal line.number) ++ codes " " ++ left widths.time line.time.items ++ left widths.operator line.operator
    ++ left widths.call (cut widths.call line.call.items) ++ right 7 (decimal line.changes) ++ undone_text line.undone_by ++ codes "\n"

-- the heads of the last two columns
abbrev pub last_heads : List ℕ
last_heads = codes "CHANGES UNDONE BY\n"

-- a line of heads
abbrev pub heads_text : Widths → (number time operator call : List ℕ) → List ℕ
heads_text widths number time operator call =
    right widths.number number ++ codes " " ++ left widths.time time ++ left widths.operator operator ++ left widths.call call ++ last_heads

abbrev pub head_text : Widths → List ℕ
head_text widths = heads_text widths (codes "ROW") (codes "TIME") (codes "OPERATOR") (codes "CALL")

abbrev pub legend_text : (legend : Bool) → Widths → List ℕ
legend_text true widths = head_text widths
legend_text false widths = []

-- The table: heads if there is a legend, and a line for each row.
abbrev pub table : Option ℕ → (legend : Bool) → List LogLine → List ℕ
table columns legend lines = legend_text legend (widths_of columns lines) ++ flat_map (line_text (widths_of columns lines)) lines
