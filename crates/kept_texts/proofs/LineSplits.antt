-- A text of lines is cut into these lines.
use Rattle.std.proofs.Common.{◌≡◌, ◌<◌, ◌+◌, ◌-◌, ℕ, suc, Bool, true, false, List, [], ◌∷◌, ◌++◌, codes, length, take, drop, Some, refl, ap, ◌∙◌, arith, append_assoc, length-append}
use Rattle.std.specs.Prelude.{not}
use Rattle.std.specs.List.{list_all, filter, slice_split}
use Rattle.std.proofs.lemmas.Bool.{and_parts, false≢true}
use Rattle.std.proofs.lemmas.List.{append-nil}
use Rattle.std.proofs.lemmas.List.Elements.{filter-append}
use Rattle.script_words.specs.Words.{is_word_byte, is_line_byte, lines_text}
use Rattle.script_words.proofs.WordBytes.{line_bytes}
use Rattle.kept_texts.specs.Readings.{is_line_end, count_lines, lines_of}
use Rattle.kept_texts.proofs.Parts.{joined, are_parts}

no_end : (b : ℕ) (bs : List ℕ) → list_all is_line_byte (b ∷ bs) ≡ true → (is_line_end b ≡ false) × (list_all is_line_byte bs ≡ true)
no_end b bs h =
    let parts = and_parts (is_line_byte b) (list_all is_line_byte bs) h in
    (of_not (is_line_end b) parts.0, parts.1)
  where
    of_not : (s : Bool) → not s ≡ true → s ≡ false
    of_not true h = absurd (false≢true h)
    of_not false h = refl

pub split_line : (line rest : List ℕ) → list_all is_line_byte line ≡ true → slice_split is_line_end (line ++ (codes "\n" ++ rest)) ≡ line ∷ slice_split is_line_end rest
split_line [] rest h = refl
split_line (b ∷ line) rest h = let here = no_end b line h in rw here.0 (rw (split_line line rest here.1) refl)

split_last_line : (line : List ℕ) → list_all is_line_byte line ≡ true → slice_split is_line_end line ≡ line ∷ []
split_last_line [] h = refl
split_last_line (b ∷ line) h = let here = no_end b line h in rw here.0 (rw (split_last_line line here.1) refl)

pub take_beyond : (xs ys : List ℕ) (k : ℕ) → take (length xs + k) (xs ++ ys) ≡ xs ++ take k ys
take_beyond [] ys k = let same : 0 + k ≡ k = omega arith in ap (λ (j : ℕ). take j ys) same
take_beyond (x ∷ xs) ys k =
    let same : suc (length xs) + k ≡ suc (length xs + k) = omega arith in
    ap (λ (j : ℕ). take j (x ∷ (xs ++ ys))) same ∙ ap (λ (l : List ℕ). x ∷ l) (take_beyond xs ys k)

pub drop_beyond : (xs ys : List ℕ) (k : ℕ) → drop (length xs + k) (xs ++ ys) ≡ drop k ys
drop_beyond [] ys k = let same : 0 + k ≡ k = omega arith in ap (λ (j : ℕ). drop j ys) same
drop_beyond (x ∷ xs) ys k =
    let same : suc (length xs) + k ≡ suc (length xs + k) = omega arith in
    ap (λ (j : ℕ). drop j (x ∷ (xs ++ ys))) same ∙ drop_beyond xs ys k

-- all but the last byte, and the last byte
unfoldable pub init : List ℕ → List ℕ
init text = take (length text - 1) text

unfoldable pub last : List ℕ → List ℕ
last text = drop (length text - 1) text

one_less : (xs ys : List ℕ) → 0 < length ys → length (xs ++ ys) - 1 ≡ length xs + (length ys - 1)
one_less xs ys some = let both = length-append xs ys in omega (arith, both, some)

init-append : (xs ys : List ℕ) → 0 < length ys → init (xs ++ ys) ≡ xs ++ init ys
unfolding init
init-append xs ys some = ap (λ (k : ℕ). take k (xs ++ ys)) (one_less xs ys some) ∙ take_beyond xs ys (length ys - 1)

last-append : (xs ys : List ℕ) → 0 < length ys → last (xs ++ ys) ≡ last ys
unfolding last
last-append xs ys some = ap (λ (k : ℕ). drop k (xs ++ ys)) (one_less xs ys some) ∙ drop_beyond xs ys (length ys - 1)

abbrev pub are_lines : List (List ℕ) → Bool
are_lines lines = list_all (list_all is_line_byte) lines

line_length : (line rest : List ℕ) → 0 < length ((line ++ codes "\n") ++ rest)
line_length line rest =
    let one = length-append line (codes "\n") in
    let both = length-append (line ++ codes "\n") rest in
    let end : length (codes "\n") ≡ 1 = refl in
    omega (arith, one, both, end)

init_of_end : init (codes "\n") ≡ []
unfolding init
init_of_end = refl

last_of_end : last (codes "\n") ≡ codes "\n"
unfolding last
last_of_end = refl

split_lines : (line : List ℕ) (lines : List (List ℕ)) → are_lines (line ∷ lines) ≡ true → slice_split is_line_end (init (lines_text (line ∷ lines))) ≡ line ∷ lines
split_lines line [] are =
    let clean = (and_parts (list_all is_line_byte line) true are).0 in
    ap (λ (t : List ℕ). slice_split is_line_end (init t)) (append-nil (line ++ codes "\n"))
    ∙ ap (slice_split is_line_end) (init-append line (codes "\n") (omega arith) ∙ ap (λ (t : List ℕ). line ++ t) init_of_end ∙ append-nil line)
    ∙ split_last_line line clean
split_lines line (next ∷ lines) are =
    let parts = and_parts (list_all is_line_byte line) (are_lines (next ∷ lines)) are in
    ap (slice_split is_line_end)
    (init-append (line ++ codes "\n") (lines_text (next ∷ lines)) (line_length next (lines_text lines))
    ∙ append_assoc line (codes "\n") (init (lines_text (next ∷ lines))))
    ∙ split_line line (init (lines_text (next ∷ lines))) parts.0
    ∙ ap (λ (ls : List (List ℕ)). line ∷ ls) (split_lines next lines parts.1)

pub last_end : (line : List ℕ) (lines : List (List ℕ)) → last (lines_text (line ∷ lines)) ≡ codes "\n"
last_end line [] = ap last (append-nil (line ++ codes "\n")) ∙ last-append line (codes "\n") (omega arith) ∙ last_of_end
last_end line (next ∷ lines) =
    last-append (line ++ codes "\n") (lines_text (next ∷ lines)) (line_length next (lines_text lines)) ∙ last_end next lines

lines_if : (text : List ℕ) (lines : List (List ℕ)) → last text ≡ codes "\n" → slice_split is_line_end (init text) ≡ lines → lines_of text ≡ Some lines
unfolding lines_of init last
lines_if text lines end are = rw end (ap (λ (ls : List (List ℕ)). Some ls) are)

pub lines_of-lines_text : (line : List ℕ) (lines : List (List ℕ)) → are_lines (line ∷ lines) ≡ true → lines_of (lines_text (line ∷ lines)) ≡ Some (line ∷ lines)
lines_of-lines_text line lines are = lines_if (lines_text (line ∷ lines)) (line ∷ lines) (last_end line lines) (split_lines line lines are)

pub append_are_lines : (these those : List (List ℕ)) → are_lines these ≡ true → are_lines those ≡ true → are_lines (these ++ those) ≡ true
append_are_lines [] those h k = k
append_are_lines (line ∷ these) those h k =
    let parts = and_parts (list_all is_line_byte line) (are_lines these) h in
    rw parts.0 (append_are_lines these those parts.1 k)

append_is_line : (xs ys : List ℕ) → list_all is_line_byte xs ≡ true → list_all is_line_byte ys ≡ true → list_all is_line_byte (xs ++ ys) ≡ true
append_is_line [] ys these those = those
append_is_line (x ∷ xs) ys these those =
    let parts = and_parts (is_line_byte x) (list_all is_line_byte xs) these in
    rw parts.0 (append_is_line xs ys parts.1 those)

pub joined_is_line : (part : List ℕ) (parts : List (List ℕ)) → are_parts (part ∷ parts) ≡ true → list_all is_line_byte (joined part parts) ≡ true
joined_is_line part [] are = line_bytes part (and_parts (list_all is_word_byte part) true are).0
joined_is_line part (next ∷ parts) are =
    let these = and_parts (list_all is_word_byte part) (are_parts (next ∷ parts)) are in
    append_is_line part (codes " " ++ joined next parts) (line_bytes part these.0) (joined_is_line next parts these.1)

-- how many line ends there are
pub count_lines-append : (xs ys : List ℕ) → count_lines (xs ++ ys) ≡ count_lines xs + count_lines ys
count_lines-append xs ys = ap length (filter-append is_line_end xs ys) ∙ length-append (filter is_line_end xs) (filter is_line_end ys)

pub count_lines-line : (line : List ℕ) → list_all is_line_byte line ≡ true → count_lines line ≡ 0
count_lines-line [] h = refl
count_lines-line (b ∷ line) h = let here = no_end b line h in rw here.0 (count_lines-line line here.1)

pub count_lines-lines_text : (lines : List (List ℕ)) → are_lines lines ≡ true → count_lines (lines_text lines) ≡ length lines
count_lines-lines_text [] are = refl
count_lines-lines_text (line ∷ lines) are =
    let parts = and_parts (list_all is_line_byte line) (are_lines lines) are in
    let rest = count_lines-lines_text lines parts.1 in
    let none = count_lines-line line parts.0 in
    let end : count_lines (codes "\n") ≡ 1 = refl in
    let one = count_lines-append line (codes "\n") in
    let both = count_lines-append (line ++ codes "\n") (lines_text lines) in
    omega (arith, rest, none, end, one, both)
