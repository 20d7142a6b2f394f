-- What the lines of a history say: a line says some words if it is the line that is written for
-- them. To find these words, the line is cut at its spaces, and each part is taken for what it may
-- mean.
use Rattle.std.specs.Prelude.{ℕ, Bool, not, ◌==◌, nat_eq, if◌then◌else◌, List, [], ◌∷◌, length, drop, Option, Some, None, Result, Ok, Err, codes}
use Rattle.std.specs.List.{slice_split, starts_with}
use Rattle.std.specs.Str.{bytes_eq}
use Rattle.hex.specs.Hex.{decode_sized}
use Rattle.hex.specs.declared.error.FromHexError.{FromHexError}
use Rattle.script_words.specs.Escapes.{text_of}
use Rattle.script_words.specs.Numbers.{number_of}
use Rattle.script_words.specs.Words.{is_space}
use Rattle.kept_texts.specs.declared.sums.Sum.{Sum}
use Rattle.kept_texts.specs.declared.words.RunWords.{RunWords}
use Rattle.kept_texts.specs.declared.line_words.HeaderLine.{HeaderLine}
use Rattle.kept_texts.specs.declared.line_words.EndLine.{EndLine}
use Rattle.kept_texts.specs.Lines.{header_line, run_line, end_line}
use Rattle.kept_texts.specs.Values.{is_label, is_time}

-- the ? of the logic
infixl 10 ◌>>=◌
abbrev pub ◌>>=◌ : {A B : Type 0} → Option A → (A → Option B) → Option B
Some x >>= f = f x
None >>= f = None

-- the parts of a line before, between and after its spaces
unfoldable pub parts_of : List ℕ → List (List ℕ)
parts_of line = slice_split is_space line

-- what follows a key
abbrev pub after_key : List ℕ → List ℕ → Option (List ℕ)
after_key key part = if starts_with nat_eq part key then Some (drop (length key) part) else None

abbrev pub label_of : List ℕ → Option (List ℕ)
label_of text = if is_label text then Some text else None

abbrev pub time_of : List ℕ → Option (List ℕ)
time_of text = if is_time text then Some text else None

abbrev pub bytes_if_any : Result (List ℕ) FromHexError → Option (List ℕ)
bytes_if_any (Ok bytes) = Some bytes
bytes_if_any (Err error) = None

-- as many bytes as hexadecimal digits may represent
abbrev pub bytes_of : ℕ → List ℕ → Option (List ℕ)
bytes_of count digits = bytes_if_any (decode_sized digits count)

-- the label that a word spells
abbrev pub label_of_word : List ℕ → Option (List ℕ)
label_of_word word = text_of word >>= label_of

abbrev pub label_after : List ℕ → List ℕ → Option (List ℕ)
label_after key part = after_key key part >>= label_of_word

abbrev pub number_after : List ℕ → List ℕ → Option ℕ
number_after key part = after_key key part >>= number_of

abbrev pub id_after : List ℕ → List ℕ → Option (List ℕ)
id_after key part = after_key key part >>= bytes_of 16

abbrev pub sum_after : List ℕ → List ℕ → Option Sum
sum_after key part = after_key key part >>= λ digits. bytes_of 32 digits >>= λ bytes. Some (record { bytes = bytes })

-- the words that the parts of a header may mean
abbrev pub header_of_parts : (id root text : List ℕ) → Option HeaderLine
header_of_parts id root text = do
  id ← id_after (codes "id=") id
  sum ← sum_after (codes "text=sha256:") text
  root ← label_after (codes "root=") root
  Some (record { header = record { id = id; root = root }; sum = sum })

abbrev pub header_meant : List (List ℕ) → Option HeaderLine
header_meant (a ∷ b ∷ c ∷ id ∷ root ∷ text ∷ []) = header_of_parts id root text
header_meant parts = None

-- the words that the parts of the first line of a run may mean
abbrev pub run_of_parts : (time login program rules : List ℕ) → Bool → Option RunWords
run_of_parts time login program rules outside = do
  time ← time_of time
  rules ← number_after (codes "rules=") rules
  login ← label_after (codes "login=") login
  program ← label_after (codes "program=") program
  Some (record { time = time; login = login; program = program; rules = rules; outside = outside })

abbrev pub run_meant : List (List ℕ) → Option RunWords
run_meant (a ∷ b ∷ time ∷ login ∷ program ∷ rules ∷ rest) =
    run_of_parts time login program rules (not (length rest == 0))
run_meant parts = None

-- the sums that the parts of the last line of a run may mean
abbrev pub end_of_parts : (tree text : List ℕ) → Option EndLine
end_of_parts tree text = do
  tree ← sum_after (codes "tree=sha256:") tree
  sum ← sum_after (codes "text=sha256:") text
  Some (record { tree = tree; sum = sum })

abbrev pub end_meant : List (List ℕ) → Option EndLine
end_meant (a ∷ b ∷ tree ∷ text ∷ []) = end_of_parts tree text
end_meant parts = None

-- words, if this is the line that is written for them
abbrev pub if_written : {W : Type 0} → (W → List ℕ) → List ℕ → Option W → Option W
if_written write line meant = meant >>= λ words. if bytes_eq (write words) line then Some words else None

-- the words of which a line is the header line
unfoldable pub header_said : List ℕ → Option HeaderLine
header_said line = if_written header_line line (header_meant (parts_of line))

-- the words of which a line is the first line of a run
unfoldable pub run_said : List ℕ → Option RunWords
run_said line = if_written run_line line (run_meant (parts_of line))

-- the sums of which a line is the last line of a run
unfoldable pub end_said : List ℕ → Option EndLine
end_said line = if_written end_line line (end_meant (parts_of line))
