-- Lines are read as the words for which they are written.
use Rattle.std.proofs.Common.{◌≡◌, ◌==◌, ◌<◌, ◌^◌, ℕ, Bool, true, false, cond, List, [], ◌∷◌, ◌++◌, codes, length, Option, Some, None, refl, sym, ap, subst, ◌∙◌, arith, append_assoc}
use Rattle.std.specs.Prelude.{not}
use Rattle.std.specs.Fmt.{decimal}
use Rattle.std.proofs.lemmas.List.{append-nil}
use Rattle.std.specs.List.{list_all}
use Rattle.std.specs.Str.{bytes_eq}
use Rattle.hex.specs.Hex.{encode_lower, IsBytes}
use Rattle.hex.proofs.HexLemmas.{decode_sized-encode_lower}
use Rattle.script_words.specs.Escapes.{spelled}
use Rattle.script_words.specs.Numbers.{number_of}
use Rattle.script_words.specs.Words.{is_word_byte}
use Rattle.script_words.proofs.NumberWords.{decimal_is_read}
use Rattle.link_tree.proofs.Lengths.{decimal_digits}
use Rattle.script_words.proofs.EscapedTexts.{escaped_is_read, escaped_is_word}
use Rattle.kept_texts.specs.declared.sums.Sum.{Sum}
use Rattle.kept_texts.specs.declared.words.RunWords.{RunWords}
use Rattle.kept_texts.specs.declared.line_words.HeaderLine.{HeaderLine}
use Rattle.kept_texts.specs.declared.line_words.EndLine.{EndLine}
use Rattle.kept_texts.specs.Sums.{sum_words}
use Rattle.kept_texts.specs.Values.{is_label, is_time}
use Rattle.kept_texts.specs.Lines.{header_mark, text_sum, header_front, header_line, outside_word, run_line, end_mark, end_front, end_line}
use Rattle.kept_texts.specs.Sayings.{◌>>=◌, parts_of, label_of, label_of_word, time_of, bytes_if_any, bytes_of, header_meant, run_meant, end_meant, if_written, header_said, run_said, end_said}
use Rattle.kept_texts.specs.Laws.{IsSum, IsHeader, AreWords, HeadersAreRead, RunsAreRead, EndsAreRead}
use Rattle.kept_texts.proofs.PartBytes.{bytes_same, same_bytes, decimal_is_part, hex_is_part, time_is_part}
use Rattle.kept_texts.proofs.Parts.{joined, are_parts, parts_of-joined}

-- what is written for some words is the line, if the line says them
module _ {W : Type 0} (write : W → List ℕ) where
  kept : (words other : W) (line : List ℕ) (b : Bool) → b ≡ bytes_eq (write other) line → cond b (Some other) None ≡ Some words → line ≡ write words
  kept words other line true is same =
      let one : other ≡ words = cc in
      sym (same_bytes (write other) line (sym is)) ∙ ap write one
  kept words other line false is same = cc

  pub says : (meant : Option W) (words : W) (line : List ℕ) → if_written write line meant ≡ Some words → line ≡ write words
  says None words line is = cc
  says (Some other) words line is = kept words other line (bytes_eq (write other) line) refl is

  pub is_said : (meant : Option W) (words : W) → meant ≡ Some words → if_written write (write words) meant ≡ Some words
  is_said meant words is =
      ap (if_written write (write words)) is
      ∙ ap (λ (b : Bool). cond b (Some words) None) (bytes_same (write words))

label_said : (text : List ℕ) → is_label text ≡ true → label_of_word (spelled text) ≡ Some text
label_said text is = ap (λ (t : Option (List ℕ)). t >>= label_of) (escaped_is_read text) ∙ ap (λ (b : Bool). cond b (Some text) None) is

time_said : (text : List ℕ) → is_time text ≡ true → time_of text ≡ Some text
time_said text is = ap (λ (b : Bool). cond b (Some text) None) is

bytes_said : (bytes : List ℕ) (count : ℕ) → length bytes ≡ count → IsBytes bytes → bytes_of count (encode_lower bytes) ≡ Some bytes
bytes_said bytes count size are = ap bytes_if_any (decode_sized-encode_lower bytes count size are)

number_said : (n : ℕ) → n < 2 ^ 32 → number_of (decimal n) ≡ Some n
number_said n small = decimal_is_read n small (decimal_digits n (omega (arith, small)))

spelled_is_part : (text : List ℕ) → list_all is_word_byte (spelled text) ≡ true
spelled_is_part text = escaped_is_word text

sum_from : Option (List ℕ) → Option Sum
sum_from digits = digits >>= λ bytes. Some (record { bytes = bytes })

-- ---- the header

header_from : Option (List ℕ) → Option Sum → Option (List ℕ) → Option HeaderLine
header_from id sum root = do
  id ← id
  sum ← sum
  root ← root
  Some (record { header = record { id = id; root = root }; sum = sum })

pub header_parts : HeaderLine → List (List ℕ)
header_parts words =
    codes "unitroot-history" ∷ codes "1" ∷ (codes "id=" ++ encode_lower words.header.id)
    ∷ (codes "root=" ++ spelled words.header.root) ∷ (codes "text=sha256:" ++ encode_lower words.sum.bytes) ∷ []

pub header_joined : (words : HeaderLine) → header_line words ≡ joined (codes "#") (header_parts words)
unfolding header_front header_mark text_sum sum_words header_parts
header_joined words = simp append_assoc

pub header_are_parts : (words : HeaderLine) → are_parts (codes "#" ∷ header_parts words) ≡ true
unfolding header_parts
header_are_parts words = rw (hex_is_part words.header.id) (rw (spelled_is_part words.header.root) (rw (hex_is_part words.sum.bytes) refl))

header_by_parts : (words : HeaderLine) → header_meant (codes "#" ∷ header_parts words)
    ≡ header_from (bytes_of 16 (encode_lower words.header.id)) (sum_from (bytes_of 32 (encode_lower words.sum.bytes))) (label_of_word (spelled words.header.root))
unfolding header_parts header_from sum_from
header_by_parts words = refl

header_is_meant : (words : HeaderLine) → IsHeader words.header → IsSum words.sum → header_meant (parts_of (header_line words)) ≡ Some words
unfolding header_from sum_from
header_is_meant words is sum =
    ap (λ (l : List ℕ). header_meant (parts_of l)) (header_joined words)
    ∙ ap header_meant (parts_of-joined (codes "#") (header_parts words) (header_are_parts words))
    ∙ header_by_parts words
    ∙ ap (λ (o : Option (List ℕ)). header_from o (sum_from (bytes_of 32 (encode_lower words.sum.bytes))) (label_of_word (spelled words.header.root))) (bytes_said words.header.id 16 is.size is.id)
    ∙ ap (λ (o : Option (List ℕ)). header_from (Some words.header.id) (sum_from o) (label_of_word (spelled words.header.root))) (bytes_said words.sum.bytes 32 sum.size sum.bytes)
    ∙ ap (λ (o : Option (List ℕ)). header_from (Some words.header.id) (Some words.sum) o) (label_said words.header.root is.root)

pub header_back : (words : HeaderLine) → IsHeader words.header → IsSum words.sum → header_said (header_line words) ≡ Some words
unfolding header_said
header_back words is sum = is_said header_line (header_meant (parts_of (header_line words))) words (header_is_meant words is sum)

pub headers_are_read : HeadersAreRead
unfolding header_said
headers_are_read words is sum line = (
  says header_line (header_meant (parts_of line)) words line,
  λ same. subst (λ (l : List ℕ). header_said l ≡ Some words) (sym same) (header_back words is sum),
)

-- ---- the first line of a run

run_from : Option (List ℕ) → Option ℕ → Option (List ℕ) → Option (List ℕ) → Bool → Option RunWords
run_from time rules login program outside = do
  time ← time
  rules ← rules
  login ← login
  program ← program
  Some (record { time = time; login = login; program = program; rules = rules; outside = outside })

outside_parts : Bool → List (List ℕ)
outside_parts true = codes "outside" ∷ []
outside_parts false = []

pub run_parts : RunWords → List (List ℕ)
run_parts words =
    codes "run" ∷ words.time ∷ (codes "login=" ++ spelled words.login)
    ∷ (codes "program=" ++ spelled words.program) ∷ (codes "rules=" ++ decimal words.rules) ∷ outside_parts words.outside

joined_end : (front part : List ℕ) (outside : Bool) → (front ++ part) ++ outside_word outside ≡ front ++ joined part (outside_parts outside)
unfolding outside_parts
joined_end front part true = append_assoc front part (codes " outside")
joined_end front part false = append-nil (front ++ part)

rules_apart : (front number : List ℕ) → (front ++ codes " rules=") ++ number ≡ (front ++ codes " ") ++ (codes "rules=" ++ number)
rules_apart front number = append_assoc front (codes " rules=") number ∙ sym (append_assoc front (codes " ") (codes "rules=" ++ number))

run_front : RunWords → List ℕ
run_front words = codes "# run " ++ words.time ++ codes " login=" ++ spelled words.login ++ codes " program=" ++ spelled words.program

run_front_joined : (words : RunWords) → (run_front words ++ codes " ") ++ joined (codes "rules=" ++ decimal words.rules) (outside_parts words.outside) ≡ joined (codes "#") (run_parts words)
unfolding run_front run_parts
run_front_joined words = simp append_assoc

pub run_joined : (words : RunWords) → run_line words ≡ joined (codes "#") (run_parts words)
unfolding run_line run_front
run_joined words =
    ap (λ (front : List ℕ). front ++ outside_word words.outside) (rules_apart (run_front words) (decimal words.rules))
    ∙ joined_end (run_front words ++ codes " ") (codes "rules=" ++ decimal words.rules) words.outside
    ∙ run_front_joined words

outside_are_parts : (outside : Bool) → are_parts (outside_parts outside) ≡ true
unfolding outside_parts
outside_are_parts true = refl
outside_are_parts false = refl

pub run_are_parts : (words : RunWords) → AreWords words → are_parts (codes "#" ∷ run_parts words) ≡ true
unfolding run_parts
run_are_parts words are =
    rw (time_is_part words.time are.time) (rw (spelled_is_part words.login) (rw (spelled_is_part words.program)
    (rw (decimal_is_part words.rules are.rules) (outside_are_parts words.outside))))

outside_is : (outside : Bool) → not (length (outside_parts outside) == 0) ≡ outside
unfolding outside_parts
outside_is true = refl
outside_is false = refl

run_by_parts : (words : RunWords) → run_meant (codes "#" ∷ run_parts words)
    ≡ run_from (time_of words.time) (number_of (decimal words.rules)) (label_of_word (spelled words.login)) (label_of_word (spelled words.program)) (not (length (outside_parts words.outside) == 0))
unfolding run_parts run_from
run_by_parts words = refl

run_is_meant : (words : RunWords) → AreWords words → run_meant (parts_of (run_line words)) ≡ Some words
unfolding run_from
run_is_meant words are =
    ap (λ (l : List ℕ). run_meant (parts_of l)) (run_joined words)
    ∙ ap run_meant (parts_of-joined (codes "#") (run_parts words) (run_are_parts words are))
    ∙ run_by_parts words
    ∙ ap (λ (o : Option (List ℕ)). run_from o (number_of (decimal words.rules)) (label_of_word (spelled words.login)) (label_of_word (spelled words.program)) (not (length (outside_parts words.outside) == 0))) (time_said words.time are.time)
    ∙ ap (λ (o : Option ℕ). run_from (Some words.time) o (label_of_word (spelled words.login)) (label_of_word (spelled words.program)) (not (length (outside_parts words.outside) == 0))) (number_said words.rules are.rules)
    ∙ ap (λ (o : Option (List ℕ)). run_from (Some words.time) (Some words.rules) o (label_of_word (spelled words.program)) (not (length (outside_parts words.outside) == 0))) (label_said words.login are.login)
    ∙ ap (λ (o : Option (List ℕ)). run_from (Some words.time) (Some words.rules) (Some words.login) o (not (length (outside_parts words.outside) == 0))) (label_said words.program are.program)
    ∙ ap (λ (b : Bool). run_from (Some words.time) (Some words.rules) (Some words.login) (Some words.program) b) (outside_is words.outside)

pub run_back : (words : RunWords) → AreWords words → run_said (run_line words) ≡ Some words
unfolding run_said
run_back words are = is_said run_line (run_meant (parts_of (run_line words))) words (run_is_meant words are)

pub runs_are_read : RunsAreRead
unfolding run_said
runs_are_read words are line = (
  says run_line (run_meant (parts_of line)) words line,
  λ same. subst (λ (l : List ℕ). run_said l ≡ Some words) (sym same) (run_back words are),
)

-- ---- the last line of a run

end_from : Option Sum → Option Sum → Option EndLine
end_from tree sum = do
  tree ← tree
  sum ← sum
  Some (record { tree = tree; sum = sum })

pub end_parts : EndLine → List (List ℕ)
end_parts words =
    codes "end" ∷ (codes "tree=sha256:" ++ encode_lower words.tree.bytes) ∷ (codes "text=sha256:" ++ encode_lower words.sum.bytes) ∷ []

pub end_joined : (words : EndLine) → end_line words ≡ joined (codes "#") (end_parts words)
unfolding end_front end_mark text_sum sum_words end_parts
end_joined words = simp append_assoc

pub end_are_parts : (words : EndLine) → are_parts (codes "#" ∷ end_parts words) ≡ true
unfolding end_parts
end_are_parts words = rw (hex_is_part words.tree.bytes) (rw (hex_is_part words.sum.bytes) refl)

end_by_parts : (words : EndLine) → end_meant (codes "#" ∷ end_parts words)
    ≡ end_from (sum_from (bytes_of 32 (encode_lower words.tree.bytes))) (sum_from (bytes_of 32 (encode_lower words.sum.bytes)))
unfolding end_parts end_from sum_from
end_by_parts words = refl

end_is_meant : (words : EndLine) → IsSum words.tree → IsSum words.sum → end_meant (parts_of (end_line words)) ≡ Some words
unfolding end_from sum_from
end_is_meant words tree sum =
    ap (λ (l : List ℕ). end_meant (parts_of l)) (end_joined words)
    ∙ ap end_meant (parts_of-joined (codes "#") (end_parts words) (end_are_parts words))
    ∙ end_by_parts words
    ∙ ap (λ (o : Option (List ℕ)). end_from (sum_from o) (sum_from (bytes_of 32 (encode_lower words.sum.bytes)))) (bytes_said words.tree.bytes 32 tree.size tree.bytes)
    ∙ ap (λ (o : Option (List ℕ)). end_from (Some words.tree) (sum_from o)) (bytes_said words.sum.bytes 32 sum.size sum.bytes)

pub end_back : (words : EndLine) → IsSum words.tree → IsSum words.sum → end_said (end_line words) ≡ Some words
unfolding end_said
end_back words tree sum = is_said end_line (end_meant (parts_of (end_line words))) words (end_is_meant words tree sum)

pub ends_are_read : EndsAreRead
unfolding end_said
ends_are_read words tree sum line = (
  says end_line (end_meant (parts_of line)) words line,
  λ same. subst (λ (l : List ℕ). end_said l ≡ Some words) (sym same) (end_back words tree sum),
)
