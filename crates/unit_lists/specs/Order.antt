-- The order in which unit files are listed: by their types, then by their names with all letters
-- taken as small ones: systemctl(1), "list-unit-files".
use Rattle.std.specs.Prelude.{ℕ, Bool, ◌==◌, List, [], ◌∷◌, ◌++◌, map as list_map}
use Rattle.std.specs.Char.{to_ascii_lowercase}
use Rattle.std.specs.List.{after_last}
use Rattle.std.specs.Option.{option_map_or}
use Rattle.unit_name.specs.Parts.{type_text}
use Rattle.unit_name.specs.Name.{type_of}

-- the type at the end of a name
abbrev pub type_in : (name : List ℕ) → List ℕ
type_in name = option_map_or type_text (type_of name) []

-- What a name is listed by: its type, the name in small letters and the name itself, with a NUL,
-- which no name has, after the first two.
unfoldable pub order_text : (name : List ℕ) → List ℕ
order_text name = type_in name ++ 0 ∷ list_map to_ascii_lowercase name ++ 0 ∷ name

abbrev pub is_nul : ℕ → Bool
is_nul b = b == 0

-- the name itself
abbrev pub last_name : (text : List ℕ) → List ℕ
last_name text = after_last is_nul text
