-- The table of unit files: systemctl(1), "list-unit-files".
use Rattle.std.specs.Prelude.{ℕ, ◌-◌, max, Bool, true, false, List, ◌++◌, length, replicate, fold, Option, Some, None, codes}
use Rattle.std.specs.Fmt.{decimal}
use Rattle.std.specs.List.{flat_map}
use Rattle.unit_lists.specs.declared.table.Widths.{Widths}
use Rattle.unit_lists.specs.declared.unit_line.PresetWord.{PresetWord}
use Rattle.unit_lists.specs.declared.unit_line.UnitLine.{UnitLine}
use Rattle.unit_lists.specs.UnitLines.{listed_state_text, preset_text}
use Prim.Native.Char.{code}

-- the width of the longest name, or this, if that is more
abbrev pub name_width : (least : ℕ) → List UnitLine → ℕ
name_width least lines = fold (λ width line. max width (length line.name)) least lines

-- that of the longest state
abbrev pub state_width : (least : ℕ) → List UnitLine → ℕ
state_width least lines = fold (λ width line. max width (length (listed_state_text line.state))) least lines

-- with heads, the columns are at least as wide as these
abbrev pub least_widths : (legend : Bool) → Widths
least_widths true = record { name = 9; state = 5 }
least_widths false = record { name = 0; state = 0 }

abbrev pub widths_of : List UnitLine → (legend : Bool) → Widths
widths_of lines legend = record { name = name_width (least_widths legend).name lines; state = state_width (least_widths legend).state lines }

-- a text, spaces up to a width, and one more
abbrev pub padded : (width : ℕ) → (text : List ℕ) → List ℕ
padded width text = text ++ replicate (width - length text) (code " ") ++ codes " "

abbrev pub preset_column : Option PresetWord → List ℕ
preset_column (Some word) = preset_text word
preset_column None = codes "-"

-- the row of a unit
abbrev pub row : Widths → UnitLine → List ℕ
row widths line = padded widths.name line.name ++ padded widths.state (listed_state_text line.state) ++ preset_column line.preset ++ codes "\n"

-- the row of heads
abbrev pub head : Widths → List ℕ
head widths = padded widths.name (codes "UNIT FILE") ++ padded widths.state (codes "STATE") ++ codes "PRESET\n"

-- the number of unit files
abbrev pub foot : (count : ℕ) → List ℕ
foot count = codes "\n" ++ decimal count ++ codes " unit files listed.\n"

-- The table: the heads and the number are the legend.
abbrev pub table : List UnitLine → (legend : Bool) → List ℕ
table lines true = head (widths_of lines true) ++ flat_map (row (widths_of lines true)) lines ++ foot (length lines)
table lines false = flat_map (row (widths_of lines false)) lines
