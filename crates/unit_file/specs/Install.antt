-- What a unit file asks for when it is installed: systemd.unit(5), "[Install] Section Options".
use Rattle.std.specs.Prelude.{ℕ, ◌+◌, Bool, not, ◌&&◌, ◌==◌, if◌then◌else◌, List, [], ◌∷◌, ◌++◌, length, take, drop, Option, Some, None, option_and_then, codes}
use Rattle.std.specs.List.{filter, filter_map, flat_map, position, take_while, slice_split, after_last, last_or}
use Rattle.std.specs.Option.{option_map}
use Rattle.std.specs.Str.{bytes_eq}
use Rattle.unit_file.specs.declared.install.InstallText.{InstallText}
use Rattle.unit_file.specs.Lines.{is_blank, begins_with, ends_with, stripped}
use Prim.Native.Char.{code}

abbrev pub is_empty : List ℕ → Bool
is_empty text = length text == 0

-- [NAME] opens the section NAME, whatever its bytes. Any other line that begins with [ doesn't open
-- a section, and gives no value to any of the keys below.
unfoldable pub opens_section : List ℕ → Bool
opens_section line = begins_with (code "[") line && ends_with (code "]") line

abbrev pub is_install : List ℕ → Bool
is_install line = bytes_eq line (codes "[Install]")

-- The lines of [Install]: after each line [Install], those up to the next that opens a section.
unfoldable pub install_lines : List (List ℕ) → List (List ℕ)
install_lines [] = []
install_lines (line ∷ rest) =
    if is_install line then take_while (λ other. not (opens_section other)) rest ++ install_lines rest
    else install_lines rest

abbrev pub is_equals_sign : ℕ → Bool
is_equals_sign b = b == code "="

-- KEY=VALUE, at the first =: "Whitespace immediately before or after the = is ignored."
unfoldable pub assignment : List ℕ → Option (List ℕ × List ℕ)
assignment line = option_map (λ at. (stripped (take at line), stripped (drop (at + 1) line))) (position is_equals_sign line)

-- the value that a line assigns to a key
unfoldable pub value_of : List ℕ → List ℕ → Option (List ℕ)
value_of key line = option_and_then (λ pair. if bytes_eq pair.0 key then Some pair.1 else None) (assignment line)

-- the values of a key, in the order of its lines in [Install]
abbrev pub values : List ℕ → List (List ℕ) → List (List ℕ)
values key lines = filter_map (value_of key) (install_lines lines)

-- "a space-separated list of unit names"
unfoldable pub words : List ℕ → List (List ℕ)
words value = filter (λ word. not (is_empty word)) (slice_split is_blank value)

-- "This option may be used more than once", and the lists add up; an empty value empties the list.
abbrev pub list_of : List (List ℕ) → List (List ℕ)
list_of values = flat_map words (after_last is_empty values)

-- the last value, valid or not; none if it is empty
abbrev pub last_value : List (List ℕ) → Option (List ℕ)
last_value values = option_and_then (λ value. if is_empty value then None else Some value) (last_or None values)

-- What the logical lines of a file ask for. An empty value of Also= doesn't empty its list.
unfoldable pub install_text : List (List ℕ) → InstallText
install_text lines = record {
  wanted_by = list_of (values (codes "WantedBy") lines);
  required_by = list_of (values (codes "RequiredBy") lines);
  upheld_by = list_of (values (codes "UpheldBy") lines);
  alias = list_of (values (codes "Alias") lines);
  also = flat_map words (values (codes "Also") lines);
  default_instance = last_value (values (codes "DefaultInstance") lines);
}
