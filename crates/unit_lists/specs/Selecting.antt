-- Which unit files are listed: systemctl(1), "list-unit-files", "--type=" and "--state=".
use Rattle.std.specs.Prelude.{ℕ, Bool, ◌&&◌, ◌||◌, ◌==◌, List, length}
use Rattle.std.specs.List.{list_any}
use Rattle.std.specs.Str.{bytes_eq}
use Rattle.preset_rules.specs.Patterns.{is_matched}
use Rattle.unit_lists.specs.declared.unit_line.UnitLine.{UnitLine}
use Rattle.unit_lists.specs.Order.{type_in}
use Rattle.unit_lists.specs.UnitLines.{listed_state_text}

abbrev pub has_match : (patterns : List (List ℕ)) → (name : List ℕ) → Bool
has_match patterns name = list_any (λ pattern. is_matched pattern name) patterns

-- one of the patterns matches a name, or there is none
abbrev pub is_matched_by_any : (patterns : List (List ℕ)) → (name : List ℕ) → Bool
is_matched_by_any patterns name = length patterns == 0 || has_match patterns name

abbrev pub has_word : (words : List (List ℕ)) → (text : List ℕ) → Bool
has_word words text = list_any (bytes_eq text) words

-- a text is one of the words, or there is none
abbrev pub is_of_any : (words : List (List ℕ)) → (text : List ℕ) → Bool
is_of_any words text = length words == 0 || has_word words text

abbrev pub is_selected : (patterns types : List (List ℕ)) → (name : List ℕ) → Bool
is_selected patterns types name = is_matched_by_any patterns name && is_of_any types (type_in name)

abbrev pub has_state : (states : List (List ℕ)) → UnitLine → Bool
has_state states line = is_of_any states (listed_state_text line.state)
