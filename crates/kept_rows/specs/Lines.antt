-- Lines of a script that are written rather than read.
use Rattle.std.specs.Prelude.{◌≡◌, ℕ, Bool, true, ◌&&◌, nat_le, List, [], ◌∷◌, ◌++◌, Option, Some, None, length, codes}
use Rattle.std.specs.List.{flat_map, list_all}
use Rattle.unit_paths.specs.Paths.{is_path}
use Rattle.link_tree.specs.Values.{is_entry}
use Rattle.link_tree.specs.declared.change.Change.{Change}
use Rattle.link_tree.specs.declared.entry.Entry.{Entry}
use Rattle.link_tree.specs.declared.entry.Entry.TheVariants.{File, Link}
use Rattle.script_words.specs.Escapes.{spelled}
use Rattle.script_words.specs.Words.{is_word, is_word_byte}
use Rattle.kept_rows.specs.Others.{outside}

-- whether a text can be a word of a line: it isn't empty, and no byte of it is a space or a line
-- end
abbrev pub can_be_word : List ℕ → Bool
can_be_word text = is_word text && list_all is_word_byte text

abbrev pub spaced : List ℕ → List ℕ
spaced word = codes " " ++ word

-- the line of an operator's call: the operator's name and the words, with a space before each
abbrev pub line_of : (operator : List ℕ) → List (List ℕ) → List ℕ
line_of operator words = operator ++ flat_map spaced words

-- a text as a word, if it isn't empty
abbrev pub word_if_any : List ℕ → List (List ℕ)
word_if_any [] = []
word_if_any (b ∷ bs) = (b ∷ bs) ∷ []

abbrev pub entry_words : Entry → List (List ℕ)
entry_words (Link target) = codes "link" ∷ target ∷ []
entry_words (File contents) = codes "file" ∷ word_if_any (spelled contents)

abbrev pub removal_line : List ℕ → List ℕ
removal_line path = line_of outside (codes "remove" ∷ path ∷ [])

abbrev pub placement_line : List ℕ → Entry → List ℕ
placement_line path entry = line_of outside (codes "place" ∷ path ∷ entry_words entry)

-- the lines of the calls that replace one entry at a path, or none, by another
abbrev pub lines_at : List ℕ → (before after : Option Entry) → List (List ℕ)
lines_at path None None = []
lines_at path (Some old) None = removal_line path ∷ []
lines_at path None (Some new) = placement_line path new ∷ []
lines_at path (Some old) (Some new) = removal_line path ∷ placement_line path new ∷ []

abbrev pub lines_of_change : Change → List (List ℕ)
lines_of_change change = lines_at change.path change.before change.after

-- the lines of the calls that make these changes
abbrev pub lines_of_others : List Change → List (List ℕ)
lines_of_others changes = flat_map lines_of_change changes

-- whether a line can say that an entry, or none, is placed: a target is a word, and a file isn't
-- too long for a line, which has at most 65,536 bytes
abbrev pub can_be_placed : List ℕ → Option Entry → Bool
can_be_placed path None = true
can_be_placed path (Some (Link target)) = can_be_word target
can_be_placed path (Some (File contents)) = nat_le (length (placement_line path (File contents))) 65536

-- whether lines can say that a change was made
abbrev pub can_be_written : Change → Bool
can_be_written change = can_be_word change.path && can_be_placed change.path change.after

abbrev pub is_entry_if_any : Option Entry → Bool
is_entry_if_any None = true
is_entry_if_any (Some entry) = is_entry entry

-- A change of a tree that lines can say.
pub record CanBeWritten (change : Change) : Type 0 where
  pub path : is_path change.path ≡ true
  pub entry : is_entry_if_any change.after ≡ true
  pub written : can_be_written change ≡ true
