-- Lines of words are read as these words.
use Rattle.std.proofs.Common.{◌≡◌, ◌&&◌, ◌<◌, ◌^◌, ℕ, true, false, List, [], ◌∷◌, Some, Ok, codes, length, refl, sym, ap, ◌∙◌, arith}
use Rattle.std.specs.Prelude.{nat_lt, nat_le}
use Rattle.std.specs.Char.{is_ascii_digit}
use Rattle.std.specs.Fmt.{decimal}
use Rattle.std.specs.List.{filter, list_all, slice_split}
use Rattle.std.proofs.lemmas.Bool.{and_parts, false≢true}
use Rattle.std.proofs.lemmas.Fmt.{decimal_is_IsNumeral}
use Rattle.std.proofs.lemmas.List.{append-nil}
use Rattle.link_tree.specs.Inventory.{◌>>=◌}
use Rattle.link_tree.proofs.Lengths.{decimal_digits}
use Rattle.history.specs.declared.row.Request.{Request}
use Rattle.history.specs.declared.row.Request.TheVariants.{Undo, Redo}
use Rattle.history.specs.Operators.{is_operator, is_operator_byte}
use Rattle.unit_script.specs.declared.action.Action.{Action}
use Rattle.unit_script.specs.Requests.{request_of_verb}
use Rattle.unit_script.specs.Script.{words_of, is_comment, call_if_any, call_of_words, call_of_line}
use Rattle.script_words.specs.Numbers.{number_of}
use Rattle.script_words.specs.Words.{is_space, is_word, is_word_byte}
use Rattle.script_words.proofs.NumberWords.{decimal_is_read}
use Rattle.script_words.proofs.WordBytes.{split_word, split_last, differs, word_bytes}
use Rattle.kept_rows.specs.Lines.{can_be_word, line_of}
use Rattle.kept_rows.specs.Laws.{LinesAreRead, UndoLinesAreRead, RedoLinesAreRead}

-- the bytes of a word
pub word_bytes_of : (word : List ℕ) → can_be_word word ≡ true → list_all is_word_byte word ≡ true
word_bytes_of word is = (and_parts (is_word word) (list_all is_word_byte word) is).1

split_line : (word : List ℕ) (words : List (List ℕ)) → list_all is_word_byte word ≡ true → list_all can_be_word words ≡ true → slice_split is_space (line_of word words) ≡ word ∷ words
split_line word [] h all = ap (slice_split is_space) (append-nil word) ∙ split_last word h
split_line word (next ∷ words) h all =
    let parts = and_parts (can_be_word next) (list_all can_be_word words) all in
    split_word word (line_of next words) h ∙ ap (λ ws. word ∷ ws) (split_line next words (word_bytes_of next parts.0) parts.1)

-- words that aren't empty are all kept
all_kept : (words : List (List ℕ)) → list_all can_be_word words ≡ true → filter is_word words ≡ words
all_kept [] all = refl
all_kept (word ∷ words) all =
    let parts = and_parts (can_be_word word) (list_all can_be_word words) all in
    let is : is_word word ≡ true = (and_parts (is_word word) (list_all is_word_byte word) parts.0).0 in
    rw is (ap (λ ws. word ∷ ws) (all_kept words parts.1))

line_words : (b : ℕ) (bs : List ℕ) (words : List (List ℕ)) → list_all is_word_byte (b ∷ bs) ≡ true → list_all can_be_word words ≡ true → words_of (line_of (b ∷ bs) words) ≡ (b ∷ bs) ∷ words
unfolding words_of
line_words b bs words h all = ap (filter is_word) (split_line (b ∷ bs) words h all) ∙ ap (λ ws. (b ∷ bs) ∷ ws) (all_kept words all)

operator_bytes : (operator : List ℕ) → is_operator operator ≡ true → list_all is_operator_byte operator ≡ true
unfolding is_operator
operator_bytes operator is = (and_parts (nat_lt 0 (length operator) && nat_le (length operator) 32) (list_all is_operator_byte operator) is).1

no_operator : is_operator [] ≡ false
unfolding is_operator
no_operator = refl

no_operator_space : is_operator_byte 32 ≡ false
unfolding is_operator_byte
no_operator_space = refl

no_operator_end : is_operator_byte 10 ≡ false
unfolding is_operator_byte
no_operator_end = refl

no_comment : is_operator_byte 35 ≡ false
unfolding is_operator_byte
no_comment = refl

no_digit_space : is_ascii_digit 32 ≡ false
no_digit_space = refl

no_digit_end : is_ascii_digit 10 ≡ false
no_digit_end = refl

line_read : (line operator : List ℕ) (words : List (List ℕ)) → is_comment line ≡ false → words_of line ≡ operator ∷ words → call_of_line line ≡ call_if_any (operator ∷ words)
unfolding call_of_line
line_read line operator words called are = rw called (rw are refl)

pub lines_are_read : LinesAreRead
lines_are_read [] words is all = absurd (false≢true (sym no_operator ∙ is))
lines_are_read (b ∷ bs) words is all =
    let bytes : list_all is_operator_byte (b ∷ bs) ≡ true = operator_bytes (b ∷ bs) is in
    let first : is_operator_byte b ≡ true = (and_parts (is_operator_byte b) (list_all is_operator_byte bs) bytes).0 in
    line_read (line_of (b ∷ bs) words) (b ∷ bs) words (differs is_operator_byte b 35 first no_comment)
    (line_words b bs words (word_bytes is_operator_byte no_operator_space no_operator_end (b ∷ bs) bytes) all)

-- what is asked for by an operator
called : (operator verb : List ℕ) (words : List (List ℕ)) (request : Request Action) → is_operator operator ≡ true → request_of_verb verb words ≡ Ok request
    → call_of_words operator (verb ∷ words) ≡ Ok (record { operator = operator; request = request })
unfolding call_of_words
called operator verb words request is asks = rw is (rw asks refl)

-- a line is read as what its words ask for
pub read_as : (operator verb : List ℕ) (words : List (List ℕ)) (request : Request Action) → is_operator operator ≡ true → list_all can_be_word (verb ∷ words) ≡ true
    → request_of_verb verb words ≡ Ok request → call_of_line (line_of operator (verb ∷ words)) ≡ Ok (Some (record { operator = operator; request = request }))
read_as operator verb words request is all asks =
    lines_are_read operator (verb ∷ words) is all ∙ ap (λ r. r >>= λ call. Ok (Some call)) (called operator verb words request is asks)

undo_asked : (number : List ℕ) (n : ℕ) → number_of number ≡ Some n → request_of_verb (codes "undo") (number ∷ []) ≡ Ok (Undo n)
unfolding request_of_verb
undo_asked number n is = rw is refl

redo_asked : (number : List ℕ) (n : ℕ) → number_of number ≡ Some n → request_of_verb (codes "redo") (number ∷ []) ≡ Ok (Redo n)
unfolding request_of_verb
redo_asked number n is = rw is refl

-- the decimal digits of a number are a word that is read as the number
digits_of : (n : ℕ) → n < 2 ^ 32 → list_all is_ascii_digit (decimal n) ≡ true
digits_of n small = decimal_digits n (omega (arith, small))

some_digit : (n : ℕ) → n < 2 ^ 32 → 0 < length (decimal n)
some_digit n small = (decimal_is_IsNumeral n (omega (arith, small))).0.0

digits_word : (ds : List ℕ) → 0 < length ds → list_all is_ascii_digit ds ≡ true → can_be_word ds ≡ true
digits_word [] some all = let none : 0 < 0 = some in absurd (omega (arith, none))
digits_word (d ∷ ds) some all = word_bytes is_ascii_digit no_digit_space no_digit_end (d ∷ ds) all

decimal_word : (n : ℕ) → n < 2 ^ 32 → can_be_word (decimal n) ≡ true
decimal_word n small = digits_word (decimal n) (some_digit n small) (digits_of n small)

decimal_read : (n : ℕ) → n < 2 ^ 32 → number_of (decimal n) ≡ Some n
decimal_read n small = decimal_is_read n small (digits_of n small)

pub undo_lines_are_read : UndoLinesAreRead
undo_lines_are_read operator n is small =
    read_as operator (codes "undo") (decimal n ∷ []) (Undo n) is (ap (λ b. b && true) (decimal_word n small)) (undo_asked (decimal n) n (decimal_read n small))

pub redo_lines_are_read : RedoLinesAreRead
redo_lines_are_read operator n is small =
    read_as operator (codes "redo") (decimal n ∷ []) (Redo n) is (ap (λ b. b && true) (decimal_word n small)) (redo_asked (decimal n) n (decimal_read n small))
