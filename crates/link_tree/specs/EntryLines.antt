-- The lines of an inventory, one for each entry.
use Rattle.std.specs.Prelude.{ℕ, ◌≤◌, ◌+◌, Bool, false, not, ◌&&◌, ◌||◌, ◌==◌, nat_lt, if◌then◌else◌, List, [], ◌∷◌, take, drop, Option, Some, None, Result, Ok, Err, codes}
use Rattle.std.specs.List.{list_all, list_any, position}
use Rattle.std.specs.Option.{option_map}
use Rattle.std.specs.Char.{is_ascii_digit}
use Rattle.std.specs.Str.{bytes_eq}
use Rattle.std.specs.Str.Parse.{digits_value}
use Rattle.unit_paths.specs.Paths.{is_path, is_target, is_root}
use Rattle.link_tree.specs.declared.entry_line.EntryLine.{EntryLine}
use Rattle.link_tree.specs.declared.entry_line.EntryLine.TheVariants.{File, Link, End}
use Rattle.link_tree.specs.declared.inventory_fault.InventoryFault.{InventoryFault}
use Rattle.link_tree.specs.declared.inventory_fault.InventoryFault.TheVariants.{BadLine, BadPath, TooLarge}
use Prim.Native.Char.{code}

abbrev pub is_tab : ℕ → Bool
is_tab b = b == code "\t"

-- the parts before and after the first tab
abbrev pub cut_at_tab : List ℕ → Option (List ℕ × List ℕ)
cut_at_tab text = option_map (λ i. (take i text, drop (i + 1) text)) (position is_tab text)

-- the second has no tab
abbrev pub two_fields : Option (List ℕ × List ℕ) → Option (List ℕ × List ℕ)
two_fields None = None
two_fields (Some fields) = if list_any is_tab fields.1 then None else Some fields

-- the two fields after a letter, with a tab before each
abbrev pub fields_of : ℕ → List ℕ → Option (List ℕ × List ℕ)
fields_of letter [] = None
fields_of letter (a ∷ []) = None
fields_of letter (a ∷ b ∷ rest) = if a == letter && is_tab b then two_fields (cut_at_tab rest) else None

-- a length is written in digits, without leading zeros
unfoldable pub is_length : List ℕ → Bool
is_length [] = false
is_length (b ∷ bs) = list_all is_ascii_digit (b ∷ bs) && (is_root bs || not (b == code "0"))

-- the number that a length represents
abbrev pub length_of : List ℕ → Option ℕ
length_of text = if is_length text then Some (digits_value 10 text) else None

abbrev pub path_of : List ℕ → Result (List ℕ) InventoryFault
path_of text = if is_path text then Ok text else Err BadPath

abbrev pub target_of : List ℕ → Result (List ℕ) InventoryFault
target_of text = if is_target text then Ok text else Err BadPath

-- the line of a file: its length and its path
abbrev pub file_line : Option ℕ → List ℕ → Result EntryLine InventoryFault
file_line None path = Err BadLine
file_line (Some length) path =
    if not (is_path path) then Err BadPath
    else if nat_lt 1048576 length then Err TooLarge
    else Ok (File path length)

-- the line of a link: its path and its target
abbrev pub link_line : List ℕ → List ℕ → Result EntryLine InventoryFault
link_line path target = if is_path path && is_target target then Ok (Link path target) else Err BadPath

-- F comes before the fields of a file, L before those of a link
abbrev pub by_letter : Option (List ℕ × List ℕ) → Option (List ℕ × List ℕ) → Result EntryLine InventoryFault
by_letter (Some file) link = file_line (length_of file.0) file.1
by_letter None (Some link) = link_line link.0 link.1
by_letter None None = Err BadLine

-- The meaning of a line, or what is wrong with it.
unfoldable pub line_of : List ℕ → Result EntryLine InventoryFault
line_of line =
    if bytes_eq line (codes "end") then Ok End
    else by_letter (fields_of (code "F") line) (fields_of (code "L") line)

-- a file is not too large
abbrev pub IsSized : EntryLine → Type 0
IsSized (File path length) = length ≤ 1048576
IsSized (Link path target) = Unit {0}
IsSized End = Unit {0}
