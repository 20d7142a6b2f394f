-- The lines of what others did are read as their calls.
use Rattle.std.proofs.Common.{◌≡◌, ◌≤◌, ◌+◌, ◌&&◌, ℕ, suc, true, List, [], ◌∷◌, ◌++◌, length, length-append, Option, Some, None, Result, Ok, codes, refl, ap, ◌∙◌, All, arith}
use Rattle.std.specs.Prelude.{nat_le}
use Rattle.std.specs.List.{flat_map, list_all}
use Rattle.std.proofs.lemmas.Bool.{and_parts, and_from, le-leb}
use Rattle.std.proofs.lemmas.List.Folds.{list_all-append}
use Rattle.std.proofs.lemmas.List.Elements.{All-head, All-tail}
use Rattle.unit_paths.specs.Paths.{is_path, is_target}
use Rattle.link_tree.specs.Files.{is_contents}
use Rattle.link_tree.specs.Inventory.{◌>>=◌}
use Rattle.link_tree.specs.Values.{is_entry}
use Rattle.link_tree.specs.declared.change.Change.{Change}
use Rattle.link_tree.specs.declared.entry.Entry.{Entry}
use Rattle.link_tree.specs.declared.entry.Entry.TheVariants.{File, Link}
use Rattle.link_tree.proofs.Again.{path-text, target-text}
use Rattle.history.specs.declared.row.Request.TheVariants.{Do}
use Rattle.history.specs.Operators as operators
use Rattle.history.specs.Operators.{is_operator}
use Rattle.unit_script.specs.declared.action.Action.TheVariants.{PlaceEntry, RemoveEntry}
use Rattle.unit_script.specs.declared.call.Call.{Call}
use Rattle.unit_script.specs.declared.reason.ScriptFault.{ScriptFault}
use Rattle.script_words.specs.Escapes.{spelled, text_of}
use Rattle.script_words.specs.Words.{is_line_byte, is_word_byte}
use Rattle.script_words.proofs.EscapedTexts.{escaped_is_read, escaped_is_word}
use Rattle.script_words.proofs.WordBytes.{line_bytes}
use Rattle.unit_script.specs.Laws.{is_line, calls_of}
use Rattle.unit_script.specs.Requests.{request_of_verb, place_kind, place_entry, place_file}
use Rattle.unit_script.specs.Script.{call_of_line, in_line, with_call}
use Rattle.unit_script.specs.Words.{path_of, link_of, file_with, file_of}
use Rattle.kept_rows.specs.Others.{outside, removal, placement, calls_at, calls_of_others}
use Rattle.kept_rows.specs.Lines.{can_be_word, spaced, line_of, word_if_any, removal_line, placement_line, lines_at, lines_of_others, can_be_placed, is_entry_if_any, CanBeWritten}
use Rattle.kept_rows.specs.Laws.{LinesOfOthersAreRead}
use Rattle.kept_rows.proofs.LineWords.{word_bytes_of, read_as}

pub outside_calls : is_operator outside ≡ true
unfolding is_operator operators.is_operator_byte
outside_calls = refl

remove_asked : (path : List ℕ) → is_path path ≡ true → request_of_verb (codes "remove") (path ∷ []) ≡ Ok (Do (RemoveEntry (record { path = path })))
unfolding request_of_verb path_of
remove_asked path is = rw is refl

link_asked : (path target : List ℕ) → is_path path ≡ true → is_target target ≡ true
    → request_of_verb (codes "place") (path ∷ codes "link" ∷ target ∷ []) ≡ Ok (Do (PlaceEntry (record { path = path; entry = Link target })))
unfolding request_of_verb place_kind path_of link_of
link_asked path target is leads = rw is (rw leads refl)

file_is : (word contents : List ℕ) → text_of word ≡ Some contents → is_contents contents ≡ true → file_of word ≡ Ok (File contents)
unfolding file_with
file_is word contents said small = rw said (rw small refl)

file_asked : (path : List ℕ) (words : List (List ℕ)) (contents : List ℕ) → is_path path ≡ true → place_file path words ≡ place_entry path (Ok (File contents))
    → request_of_verb (codes "place") (path ∷ codes "file" ∷ words) ≡ Ok (Do (PlaceEntry (record { path = path; entry = File contents })))
unfolding request_of_verb place_kind path_of
file_asked path words contents is given = given ∙ rw is refl

-- a text that is empty is no word, and then there is none
file_given : (path contents text : List ℕ) → text_of text ≡ Some contents → is_contents contents ≡ true → place_file path (word_if_any text) ≡ place_entry path (Ok (File contents))
file_given path contents [] said small = ap (place_entry path) (file_is [] contents said small)
file_given path contents (b ∷ text) said small = ap (place_entry path) (file_is (b ∷ text) contents said small)

text_words : (text : List ℕ) → list_all is_word_byte text ≡ true → list_all can_be_word (word_if_any text) ≡ true
text_words [] are = refl
text_words (b ∷ text) are = ap (λ b. b && true) are

removal_read : (path : List ℕ) → can_be_word path ≡ true → is_path path ≡ true → call_of_line (removal_line path) ≡ Ok (Some (removal path))
removal_read path word is =
    read_as outside (codes "remove") (path ∷ []) (Do (RemoveEntry (record { path = path }))) outside_calls (ap (λ b. b && true) word) (remove_asked path is)

link_read : (path target : List ℕ) → can_be_word path ≡ true → is_path path ≡ true → can_be_word target ≡ true → is_target target ≡ true
    → call_of_line (placement_line path (Link target)) ≡ Ok (Some (placement path (Link target)))
link_read path target word is target_word leads =
    read_as outside (codes "place") (path ∷ codes "link" ∷ target ∷ []) (Do (PlaceEntry (record { path = path; entry = Link target }))) outside_calls
    (and_from (can_be_word path) _ word (ap (λ b. b && true) target_word)) (link_asked path target is leads)

file_read : (path contents : List ℕ) → can_be_word path ≡ true → is_path path ≡ true → is_contents contents ≡ true
    → call_of_line (placement_line path (File contents)) ≡ Ok (Some (placement path (File contents)))
file_read path contents word is small =
    let text : List ℕ = spelled contents in
    read_as outside (codes "place") (path ∷ codes "file" ∷ word_if_any text) (Do (PlaceEntry (record { path = path; entry = File contents }))) outside_calls
    (and_from (can_be_word path) _ word (text_words text (escaped_is_word contents)))
    (file_asked path (word_if_any text) contents is (file_given path contents text (escaped_is_read contents) small))

placement_read : (path : List ℕ) (entry : Entry) → can_be_word path ≡ true → is_path path ≡ true → can_be_placed path (Some entry) ≡ true → is_entry entry ≡ true
    → call_of_line (placement_line path entry) ≡ Ok (Some (placement path entry))
placement_read path (Link target) word is placed fits = link_read path target word is placed fits
placement_read path (File contents) word is placed fits = file_read path contents word is fits

spaced_bytes : (words : List (List ℕ)) → list_all can_be_word words ≡ true → list_all is_line_byte (flat_map spaced words) ≡ true
spaced_bytes [] all = refl
spaced_bytes (word ∷ words) all =
    let parts = and_parts (can_be_word word) (list_all can_be_word words) all in
    list_all-append is_line_byte (spaced word) (flat_map spaced words)
    ∙ ap (λ b. b && list_all is_line_byte (flat_map spaced words)) (line_bytes word (word_bytes_of word parts.0))
    ∙ spaced_bytes words parts.1

-- a line that isn't too long
one_line : (words : List (List ℕ)) → list_all can_be_word words ≡ true → nat_le (length (line_of outside words)) 65536 ≡ true → is_line (line_of outside words) ≡ true
one_line words all short = and_from (list_all is_line_byte (line_of outside words)) (nat_le (length (line_of outside words)) 65536) (spaced_bytes words all) short

spaced_length : (word : List ℕ) (words : List (List ℕ)) → length (flat_map spaced (word ∷ words)) ≡ suc (length word + length (flat_map spaced words))
spaced_length word words = let sum : length (word ++ flat_map spaced words) ≡ length word + length (flat_map spaced words) = length-append word (flat_map spaced words) in omega (arith, sum)

removal_line_is : (path : List ℕ) → can_be_word path ≡ true → is_path path ≡ true → is_line (removal_line path) ≡ true
removal_line_is path word is =
    let at_most : length path ≤ 4095 = (path-text path is).1 in
    let of_path : length (flat_map spaced (path ∷ [])) ≡ suc (length path + 0) = spaced_length path [] in
    let all : length (removal_line path) ≡ 14 + length (flat_map spaced (path ∷ [])) = omega arith in
    one_line (codes "remove" ∷ path ∷ []) (ap (λ b. b && true) word) (le-leb (length (removal_line path)) 65536 (omega (arith, at_most, of_path, all)))

link_line_is : (path target : List ℕ) → can_be_word path ≡ true → is_path path ≡ true → can_be_word target ≡ true → is_target target ≡ true → is_line (placement_line path (Link target)) ≡ true
link_line_is path target word is target_word leads =
    let at_most : length path ≤ 4095 = (path-text path is).1 in
    let also : length target ≤ 4095 = (target-text target leads).1 in
    let rest : List (List ℕ) = codes "link" ∷ target ∷ [] in
    let of_target : length (flat_map spaced (target ∷ [])) ≡ suc (length target + 0) = spaced_length target [] in
    let of_rest : length (flat_map spaced rest) ≡ 5 + length (flat_map spaced (target ∷ [])) = omega arith in
    let of_path : length (flat_map spaced (path ∷ rest)) ≡ suc (length path + length (flat_map spaced rest)) = spaced_length path rest in
    let all : length (placement_line path (Link target)) ≡ 13 + length (flat_map spaced (path ∷ rest)) = omega arith in
    one_line (codes "place" ∷ path ∷ rest) (and_from (can_be_word path) _ word (ap (λ b. b && true) target_word))
    (le-leb (length (placement_line path (Link target))) 65536 (omega (arith, at_most, also, of_target, of_rest, of_path, all)))

placement_line_is : (path : List ℕ) (entry : Entry) → can_be_word path ≡ true → is_path path ≡ true → can_be_placed path (Some entry) ≡ true → is_entry entry ≡ true
    → is_line (placement_line path entry) ≡ true
placement_line_is path (Link target) word is placed fits = link_line_is path target word is placed fits
placement_line_is path (File contents) word is placed fits =
    one_line (codes "place" ∷ path ∷ codes "file" ∷ word_if_any (spelled contents))
    (and_from (can_be_word path) _ word (text_words (spelled contents) (escaped_is_word contents))) placed

-- Lines are read as these calls, whatever their numbers are.
abbrev AreRead : List (List ℕ) → List Call → Type 0
AreRead lines calls = (list_all is_line lines ≡ true) × ((number : ℕ) → calls_of number lines ≡ Ok calls)

none_read : AreRead [] []
none_read = (refl, λ number. refl)

one_read : (line : List ℕ) (call : Call) (lines : List (List ℕ)) (calls : List Call) → is_line line ≡ true → call_of_line line ≡ Ok (Some call) → AreRead lines calls → AreRead (line ∷ lines) (call ∷ calls)
one_read line call lines calls is read rest = (
  and_from (is_line line) (list_all is_line lines) is rest.0,
  λ number.
      ap (λ r. in_line number r >>= λ found. calls_of (number + 1) lines >>= λ cs. Ok (with_call [] found ++ cs)) read
      ∙ ap (λ (r : Result (List Call) ScriptFault). r >>= λ cs. Ok (call ∷ cs)) (rest.1 (number + 1)),
)

module _ (lines : List (List ℕ)) (calls : List Call) (rest : AreRead lines calls) where
  sides_read : (path : List ℕ) (before after : Option Entry) → can_be_word path ≡ true → is_path path ≡ true → can_be_placed path after ≡ true → is_entry_if_any after ≡ true
      → AreRead (lines_at path before after ++ lines) (calls_at path before after ++ calls)
  sides_read path None None word is placed fits = rest
  sides_read path (Some old) None word is placed fits = one_read (removal_line path) (removal path) lines calls (removal_line_is path word is) (removal_read path word is) rest
  sides_read path None (Some new) word is placed fits =
      one_read (placement_line path new) (placement path new) lines calls (placement_line_is path new word is placed fits) (placement_read path new word is placed fits) rest
  sides_read path (Some old) (Some new) word is placed fits =
      one_read (removal_line path) (removal path) (placement_line path new ∷ lines) (placement path new ∷ calls) (removal_line_is path word is) (removal_read path word is)
      (one_read (placement_line path new) (placement path new) lines calls (placement_line_is path new word is placed fits) (placement_read path new word is placed fits) rest)

all_read : (changes : List Change) → All CanBeWritten changes → AreRead (lines_of_others changes) (calls_of_others changes)
all_read [] all = none_read
all_read (c ∷ cs) all =
    let here : CanBeWritten c = All-head CanBeWritten c cs all in
    let parts = and_parts (can_be_word c.path) (can_be_placed c.path c.after) here.written in
    sides_read (lines_of_others cs) (calls_of_others cs) (all_read cs (All-tail CanBeWritten c cs all)) c.path c.before c.after parts.0 here.path parts.1 here.entry

pub lines_of_others_are_read : LinesOfOthersAreRead
lines_of_others_are_read changes number all = let read = all_read changes all in (read.0, read.1 number)
