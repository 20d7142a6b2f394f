-- Single words of a script, and lists of them: names of units, paths, and entries.
use Rattle.std.specs.Prelude.{ℕ, if◌then◌else◌, List, [], ◌∷◌, Result, Ok, Err}
use Rattle.std.specs.List.{list_all}
use Rattle.std.specs.Option.{option_map_or}
use Rattle.unit_name.specs.Name.{is_unit_name}
use Rattle.link_tree.specs.declared.entry.Entry.{Entry}
use Rattle.link_tree.specs.declared.entry.Entry.TheVariants.{File, Link}
use Rattle.link_tree.specs.Files.{is_contents}
use Rattle.unit_paths.specs.Paths.{is_path, is_target}
use Rattle.unit_script.specs.declared.reason.Reason.{Reason}
use Rattle.unit_script.specs.declared.reason.Reason.TheVariants.{WrongArguments, BadName, BadPath, BadTarget, BadText}
use Rattle.script_words.specs.Escapes.{text_of}

unfoldable pub name_of : List ℕ → Result (List ℕ) Reason
name_of word = if is_unit_name word then Ok word else Err BadName

-- words, all of which must be names of units
unfoldable pub names_of : List (List ℕ) → Result (List (List ℕ)) Reason
names_of words = if list_all is_unit_name words then Ok words else Err BadName

-- the names of units, at least one
abbrev pub units_of : List (List ℕ) → Result (List (List ℕ)) Reason
units_of [] = Err WrongArguments
units_of (word ∷ words) = names_of (word ∷ words)

unfoldable pub path_of : List ℕ → Result (List ℕ) Reason
path_of word = if is_path word then Ok word else Err BadPath

-- words, all of which must be paths
unfoldable pub paths_of : List (List ℕ) → Result (List (List ℕ)) Reason
paths_of words = if list_all is_path words then Ok words else Err BadPath

-- paths, at least one
abbrev pub given_paths : List (List ℕ) → Result (List (List ℕ)) Reason
given_paths [] = Err WrongArguments
given_paths (word ∷ words) = paths_of (word ∷ words)

-- the link to a target
unfoldable pub link_of : List ℕ → Result Entry Reason
link_of word = if is_target word then Ok (Link word) else Err BadTarget

-- the file that contains these bytes
unfoldable pub file_with : List ℕ → Result Entry Reason
file_with bytes = if is_contents bytes then Ok (File bytes) else Err BadText

-- the file that contains the bytes that a word represents
abbrev pub file_of : List ℕ → Result Entry Reason
file_of word = option_map_or file_with (text_of word) (Err BadText)
