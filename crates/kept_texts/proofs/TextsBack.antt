-- The text of a tree, a header and runs is read as these.
use Rattle.std.proofs.Common.{◌≡◌, ◌≤◌, ◌+◌, ◌&&◌, ℕ, suc, Bool, true, false, cond, List, [], ◌∷◌, ◌++◌, codes, length, take, drop, Option, Some, None, Ok, Err, refl, sym, ap, ◌∙◌, arith, append_assoc, length-append}
use Rattle.std.specs.Prelude.{not, nat_eq, nat_lt}
use Rattle.std.specs.FinMap as map
use Rattle.std.specs.List.{list_all, starts_with}
use Rattle.std.specs.Option.{ok_or, option_map}
use Rattle.std.specs.Str.{bytes_eq}
use Rattle.std.proofs.lemmas.Bool.{and_parts, le-ltb, false≢true}
use Rattle.std.proofs.lemmas.Grind.{flat_map-append}
use Rattle.std.proofs.lemmas.List.{append-nil}
use Rattle.link_tree.specs.Inventory.{◌>>=◌, inventory_of}
use Rattle.link_tree.specs.Shape.{IsTree}
use Rattle.link_tree.specs.Trees.{Entries, inventory_text}
use Rattle.link_tree.proofs.Again.{reads_again}
use Rattle.script_words.specs.Words.{is_line_byte, lines_text}
use Rattle.kept_texts.specs.declared.faults.LineFault.TheVariants as faults
use Rattle.kept_texts.specs.declared.sums.Sum.{Sum}
use Rattle.kept_texts.specs.declared.words.Header.{Header}
use Rattle.kept_texts.specs.declared.words.RunWords.{RunWords}
use Rattle.kept_texts.specs.declared.line_words.HeaderLine.{HeaderLine}
use Rattle.kept_texts.specs.declared.line_words.EndLine.{EndLine}
use Rattle.kept_texts.specs.declared.runs.Run.{Run}
use Rattle.kept_texts.specs.declared.runs.Runs.{Runs}
use Rattle.kept_texts.specs.declared.reading.OpenRun.{OpenRun}
use Rattle.kept_texts.specs.declared.reading.Reading.{Reading}
use Rattle.kept_texts.specs.declared.reading.Parts.{Parts}
use Rattle.kept_texts.specs.Sums.{sum_of, next_sum}
use Rattle.kept_texts.specs.Lines.{text_sum, header_mark, header_front, header_line, run_line, end_mark, end_front, end_line}
use Rattle.kept_texts.specs.Sayings.{after_key}
use Rattle.kept_texts.specs.Readings.{count_lines, count_calls, begin_run, close_run, end_run, add_call, read_line, tree_if_any, read_lines, at_line, read_header, nothing_read, read_all_lines, read_counted, lines_of, read_rest, front_text, front_of, read_text}
use Rattle.kept_texts.specs.Texts.{begins_comment, sum_end, begun_text, begun_parts, run_text, added_text, with_copy, runs_text, with_runs}
use Rattle.kept_texts.specs.Laws.{IsSum, IsHeader, AreWords, is_call_line, IsRun, AreRuns, TextsAreRead}
use Rattle.kept_texts.proofs.PartBytes.{bytes_same}
use Rattle.kept_texts.proofs.SumBytes.{sum_of_is_sum}
use Rattle.kept_texts.proofs.LinesBack.{header_parts, header_joined, header_are_parts, header_back, run_parts, run_joined, run_are_parts, run_back, end_parts, end_joined, end_are_parts, end_back}
use Rattle.kept_texts.proofs.LineSplits.{take_beyond, drop_beyond, are_lines, lines_of-lines_text, append_are_lines, joined_is_line, count_lines-append, count_lines-line, count_lines-lines_text}

-- ---- the lines

header_is_line : (words : HeaderLine) → list_all is_line_byte (header_line words) ≡ true
header_is_line words = rw (header_joined words) (joined_is_line (codes "#") (header_parts words) (header_are_parts words))

run_is_line : (words : RunWords) → AreWords words → list_all is_line_byte (run_line words) ≡ true
run_is_line words are = rw (run_joined words) (joined_is_line (codes "#") (run_parts words) (run_are_parts words are))

end_is_line : (words : EndLine) → list_all is_line_byte (end_line words) ≡ true
end_is_line words = rw (end_joined words) (joined_is_line (codes "#") (end_parts words) (end_are_parts words))

calls_are_lines : (calls : List (List ℕ)) → list_all is_call_line calls ≡ true → are_lines calls ≡ true
calls_are_lines [] are = refl
calls_are_lines (line ∷ calls) are =
    let parts = and_parts (is_call_line line) (list_all is_call_line calls) are in
    let this = (and_parts (list_all is_line_byte line) (not (begins_comment line)) parts.0).0 in
    rw this (calls_are_lines calls parts.1)

-- ---- one run

closed : Runs → Reading
closed runs = record { runs = runs; begun = None }

opened : Runs → OpenRun → Reading
opened runs run = record { runs = runs; begun = Some run }

run_kind : (reading : Reading) (n : ℕ) (line : List ℕ) → starts_with nat_eq line (codes "# run ") ≡ true → read_line reading n line ≡ begin_run reading n line
unfolding read_line
run_kind reading n line is = rw is refl

end_kind : (reading : Reading) (n : ℕ) (line : List ℕ) → starts_with nat_eq line (codes "# run ") ≡ false → starts_with nat_eq line (codes "# end ") ≡ true
    → read_line reading n line ≡ end_run reading line
unfolding read_line
end_kind reading n line other is = rw other (rw is refl)

call_kind : (reading : Reading) (n : ℕ) (line : List ℕ) → starts_with nat_eq line (codes "# run ") ≡ false → starts_with nat_eq line (codes "# end ") ≡ false
    → starts_with nat_eq line (codes "#") ≡ false → read_line reading n line ≡ add_call reading line
unfolding read_line
call_kind reading n line other none is = rw other (rw none (rw is refl))

no_first : (x z : Bool) → (x && true) ≡ false → (x && z) ≡ false
no_first true z h = absurd (false≢true (sym h))
no_first false z h = refl

no_run : (line : List ℕ) → begins_comment line ≡ false → starts_with nat_eq line (codes "# run ") ≡ false
no_run [] h = refl
no_run (b ∷ line) h = no_first (nat_eq 35 b) _ h

no_end : (line : List ℕ) → begins_comment line ≡ false → starts_with nat_eq line (codes "# end ") ≡ false
no_end [] h = refl
no_end (b ∷ line) h = no_first (nat_eq 35 b) _ h

begun_run : ℕ → RunWords → OpenRun
begun_run n words = record { words = words; line = n; text = run_line words ++ codes "\n" }

run_starts : (words : RunWords) → starts_with nat_eq (run_line words) (codes "# run ") ≡ true
unfolding run_line
run_starts words = refl

begin_read : (runs : Runs) (n : ℕ) (words : RunWords) → AreWords words → read_line (closed runs) n (run_line words) ≡ Ok (opened runs (begun_run n words))
unfolding closed opened begun_run
begin_read runs n words are =
    run_kind (closed runs) n (run_line words) (run_starts words)
    ∙ ap (λ (o : Option RunWords). ok_or o faults.BadRun >>= λ words. Ok (opened runs (begun_run n words))) (run_back words are)

with_lines : OpenRun → List ℕ → OpenRun
with_lines run more = record { words = run.words; line = run.line; text = run.text ++ more }

call_read : (runs : Runs) (run : OpenRun) (n : ℕ) (line : List ℕ) → is_call_line line ≡ true → read_line (opened runs run) n line ≡ Ok (opened runs (with_lines run (line ++ codes "\n")))
unfolding opened with_lines
call_read runs run n line is =
    let comment : begins_comment line ≡ false = of_not (begins_comment line) (and_parts (list_all is_line_byte line) (not (begins_comment line)) is).1 in
    call_kind (opened runs run) n line (no_run line comment) (no_end line comment) comment
  where
    of_not : (b : Bool) → not b ≡ true → b ≡ false
    of_not true h = absurd (false≢true h)
    of_not false h = refl

goes : (reading next : Reading) (n : ℕ) (line : List ℕ) (lines : List (List ℕ)) → read_line reading n line ≡ Ok next → read_lines reading n (line ∷ lines) ≡ read_lines next (n + 1) lines
unfolding read_lines
goes reading next n line lines is = ap (λ r. at_line n r >>= λ next. read_lines next (n + 1) lines) is

calls_read : (runs : Runs) (run : OpenRun) (n : ℕ) (calls rest : List (List ℕ)) → list_all is_call_line calls ≡ true
    → read_lines (opened runs run) n (calls ++ rest) ≡ read_lines (opened runs (with_lines run (lines_text calls))) (n + length calls) rest
unfolding opened with_lines
calls_read runs run n [] rest are =
    let same : n ≡ n + 0 = omega arith in
    ap (λ (t : List ℕ). read_lines (opened runs (record { words = run.words; line = run.line; text = t })) n rest) (sym (append-nil run.text))
    ∙ ap (λ (k : ℕ). read_lines (opened runs (with_lines run [])) k rest) same
calls_read runs run n (line ∷ calls) rest are =
    let parts = and_parts (is_call_line line) (list_all is_call_line calls) are in
    let more : OpenRun = with_lines run (line ++ codes "\n") in
    let next : n + 1 + length calls ≡ n + suc (length calls) = omega arith in
    goes (opened runs run) (opened runs more) n line (calls ++ rest) (call_read runs run n line parts.0)
    ∙ calls_read runs more (n + 1) calls rest parts.1
    ∙ ap (λ (t : List ℕ). read_lines (opened runs (record { words = run.words; line = run.line; text = t })) (n + 1 + length calls) rest) (append_assoc run.text (line ++ codes "\n") (lines_text calls))
    ∙ ap (λ (k : ℕ). read_lines (opened runs (with_lines run (lines_text (line ∷ calls)))) k rest) next

-- the sums at the end of a run with this text
ends_of : Sum → Sum → List ℕ → EndLine
ends_of sum tree text = record { tree = tree; sum = next_sum sum text }

after_run : Runs → ℕ → RunWords → Sum → List ℕ → Runs
after_run runs n words tree text = record {
  all = runs.all ++ record { words = words; line = n; calls = count_calls text; tree = tree; text = text } ∷ [];
  sum = next_sum runs.sum text;
}

end_starts : (words : EndLine) → (starts_with nat_eq (end_line words) (codes "# run ") ≡ false) × (starts_with nat_eq (end_line words) (codes "# end ") ≡ true)
unfolding end_front end_mark
end_starts words = (refl, refl)

end_read : (runs : Runs) (run : OpenRun) (n : ℕ) (tree : Sum) → IsSum tree
    → read_line (opened runs run) n (end_line (ends_of runs.sum tree (run.text ++ end_front tree))) ≡ Ok (closed (after_run runs run.line run.words tree (run.text ++ end_front tree)))
unfolding opened closed ends_of after_run
end_read runs run n tree is =
    let text : List ℕ = run.text ++ end_front tree in
    let words : EndLine = ends_of runs.sum tree text in
    end_kind (opened runs run) n (end_line words) (end_starts words).0 (end_starts words).1
    ∙ ap (λ (o : Option EndLine). ok_or o faults.BadEnd >>= λ end. close_run runs run end >>= λ runs. Ok (closed runs)) (end_back words is (sum_of_is_sum (runs.sum.bytes ++ text)))
    ∙ ap (λ (b : Bool). cond b (Ok (after_run runs run.line run.words tree text)) (Err faults.SumDiffers) >>= λ runs. Ok (closed runs)) (bytes_same (next_sum runs.sum text).bytes)

run_read : (runs : Runs) (n : ℕ) (words : RunWords) (tree : Sum) (calls rest : List (List ℕ)) → AreWords words → IsSum tree → list_all is_call_line calls ≡ true
    → let text : List ℕ = run_text words (lines_text calls) tree in
    read_lines (closed runs) n (run_line words ∷ (calls ++ (end_line (ends_of runs.sum tree text) ∷ rest)))
    ≡ read_lines (closed (after_run runs n words tree text)) (n + 1 + length calls + 1) rest
unfolding run_text begun_run with_lines
run_read runs n words tree calls rest are is all =
    let run : OpenRun = with_lines (begun_run n words) (lines_text calls) in
    let text : List ℕ = run.text ++ end_front tree in
    let end : List ℕ = end_line (ends_of runs.sum tree text) in
    goes (closed runs) (opened runs (begun_run n words)) n (run_line words) (calls ++ (end ∷ rest)) (begin_read runs n words are)
    ∙ calls_read runs (begun_run n words) (n + 1) calls (end ∷ rest) all
    ∙ goes (opened runs run) (closed (after_run runs n words tree text)) (n + 1 + length calls) end rest (end_read runs run (n + 1 + length calls) tree is)

-- ---- all runs

run_lines : Sum → (run : Run) → IsRun run → List (List ℕ)
run_lines sum run is = run_line run.words ∷ (is.lines ++ end_line (ends_of sum run.tree run.text) ∷ [])

all_lines : Parts → (runs : List Run) → AreRuns runs → List (List ℕ)
all_lines parts [] is = []
all_lines parts (run ∷ runs) is = run_lines parts.runs.sum run is.0 ++ all_lines (with_copy parts run) runs is.1

shuffled : (r l f t e : List ℕ) → ((r ++ l) ++ f) ++ (t ++ e) ≡ r ++ (l ++ (((f ++ t) ++ e) ++ []))
shuffled r l f t e = simp (append_assoc, append-nil)

one_line : List ℕ → List ℕ
one_line line = line ++ codes "\n"

text_is_lines : (words : RunWords) (tree sum : Sum) (calls : List (List ℕ))
    → run_text words (lines_text calls) tree ++ sum_end sum ≡ lines_text (run_line words ∷ (calls ++ end_line (record { tree = tree; sum = sum }) ∷ []))
unfolding run_text sum_end
text_is_lines words tree sum calls =
    shuffled (run_line words ++ codes "\n") (lines_text calls) (end_front tree) (text_sum sum) (codes "\n")
    ∙ ap (λ (more : List ℕ). (run_line words ++ codes "\n") ++ more) (sym (flat_map-append (λ line. line ++ codes "\n") calls (end_line (record { tree = tree; sum = sum }) ∷ [])))

added_is_lines : (parts : Parts) (run : Run) (is : IsRun run) → added_text parts run.text ≡ lines_text (run_lines parts.runs.sum run is)
unfolding run_lines ends_of
added_is_lines parts run is =
    ap (λ (t : List ℕ). t ++ sum_end (next_sum parts.runs.sum run.text)) is.text
    ∙ text_is_lines run.words run.tree (next_sum parts.runs.sum run.text) is.lines

runs_are_lines : (parts : Parts) (runs : List Run) (is : AreRuns runs) → runs_text parts runs ≡ lines_text (all_lines parts runs is)
unfolding all_lines
runs_are_lines parts [] is = refl
runs_are_lines parts (run ∷ runs) is =
    ap (λ (t : List ℕ). t ++ runs_text (with_copy parts run) runs) (added_is_lines parts run is.0)
    ∙ ap (λ (t : List ℕ). lines_text (run_lines parts.runs.sum run is.0) ++ t) (runs_are_lines (with_copy parts run) runs is.1)
    ∙ sym (flat_map-append (λ line. line ++ codes "\n") (run_lines parts.runs.sum run is.0) (all_lines (with_copy parts run) runs is.1))

run_has_lines : (sum : Sum) (run : Run) (is : IsRun run) → are_lines (run_lines sum run is) ≡ true
unfolding run_lines
run_has_lines sum run is =
    rw (run_is_line run.words is.words)
    (append_are_lines is.lines (end_line (ends_of sum run.tree run.text) ∷ []) (calls_are_lines is.lines is.calls) (rw (end_is_line (ends_of sum run.tree run.text)) refl))

all_have_lines : (parts : Parts) (runs : List Run) (is : AreRuns runs) → are_lines (all_lines parts runs is) ≡ true
unfolding all_lines
all_have_lines parts [] is = refl
all_have_lines parts (run ∷ runs) is =
    append_are_lines (run_lines parts.runs.sum run is.0) (all_lines (with_copy parts run) runs is.1) (run_has_lines parts.runs.sum run is.0) (all_have_lines (with_copy parts run) runs is.1)

count_text : (words : RunWords) (tree : Sum) (calls : List (List ℕ)) → AreWords words → list_all is_call_line calls ≡ true → count_lines (run_text words (lines_text calls) tree) ≡ length calls + 1
unfolding run_text
count_text words tree calls are all =
    let line = run_line words in
    let end : EndLine = record { tree = tree; sum = tree } in
    let first = count_lines-line line (run_is_line words are) in
    let middle = count_lines-lines_text calls (calls_are_lines calls all) in
    let whole = count_lines-line (end_line end) (end_is_line end) in
    let halves = count_lines-append (end_front tree) (text_sum tree) in
    let one : count_lines (codes "\n") ≡ 1 = refl in
    let a = count_lines-append line (codes "\n") in
    let b = count_lines-append (line ++ codes "\n") (lines_text calls) in
    let c = count_lines-append ((line ++ codes "\n") ++ lines_text calls) (end_front tree) in
    omega (arith, first, middle, whole, halves, one, a, b, c)

count_of : (run : Run) (is : IsRun run) → count_lines run.text ≡ length is.lines + 1
count_of run is = ap count_lines is.text ∙ count_text run.words run.tree is.lines is.words is.calls

length_of : (sum : Sum) (run : Run) (is : IsRun run) → length (run_lines sum run is) ≡ count_lines run.text + 1
unfolding run_lines
length_of sum run is =
    let count = count_of run is in
    let both = length-append is.lines (end_line (ends_of sum run.tree run.text) ∷ []) in
    omega (arith, count, both)

lines_counted : (parts : Parts) (runs : List Run) (is : AreRuns runs) → length (all_lines parts runs is) + parts.lines ≡ (with_runs parts runs).lines
unfolding all_lines
lines_counted parts [] is = omega arith
lines_counted parts (run ∷ runs) is =
    let rest = lines_counted (with_copy parts run) runs is.1 in
    let this = length_of parts.runs.sum run is.0 in
    let both = length-append (run_lines parts.runs.sum run is.0) (all_lines (with_copy parts run) runs is.1) in
    omega (arith, rest, this, both)

one_run_read : (parts : Parts) (run : Run) (is : IsRun run) (rest : List (List ℕ))
    → read_lines (closed parts.runs) (parts.before + parts.lines + 1) (run_lines parts.runs.sum run is ++ rest)
    ≡ read_lines (closed (with_copy parts run).runs) (parts.before + (parts.lines + (count_lines run.text + 1)) + 1) rest
unfolding run_lines after_run ends_of
one_run_read parts run is rest =
    let n : ℕ = parts.before + parts.lines + 1 in
    let made : List ℕ = run_text run.words (lines_text is.lines) run.tree in
    let count = count_of run is in
    let next : n + 1 + length is.lines + 1 ≡ parts.before + (parts.lines + (count_lines run.text + 1)) + 1 = omega (arith, count) in
    ap (λ (ls : List (List ℕ)). read_lines (closed parts.runs) n (run_line run.words ∷ ls)) (append_assoc is.lines (end_line (ends_of parts.runs.sum run.tree run.text) ∷ []) rest)
    ∙ ap (λ (t : List ℕ). read_lines (closed parts.runs) n (run_line run.words ∷ (is.lines ++ (end_line (ends_of parts.runs.sum run.tree t) ∷ rest)))) is.text
    ∙ run_read parts.runs n run.words run.tree is.lines rest is.words is.tree is.calls
    ∙ ap (λ (t : List ℕ). read_lines (closed (after_run parts.runs n run.words run.tree t)) (n + 1 + length is.lines + 1) rest) (sym is.text)
    ∙ ap (λ (k : ℕ). read_lines (closed (after_run parts.runs n run.words run.tree run.text)) k rest) next

runs_read : (parts : Parts) (runs : List Run) (is : AreRuns runs)
    → read_lines (closed parts.runs) (parts.before + parts.lines + 1) (all_lines parts runs is) ≡ Ok (with_runs parts runs).runs
unfolding read_lines closed all_lines
runs_read parts [] is = refl
runs_read parts (run ∷ runs) is =
    one_run_read parts run is.0 (all_lines (with_copy parts run) runs is.1) ∙ runs_read (with_copy parts run) runs is.1

shape_stays : (parts : Parts) (runs : List Run)
    → with_runs parts runs ≡ record { header = parts.header; runs = (with_runs parts runs).runs; before = parts.before; lines = (with_runs parts runs).lines }
shape_stays parts [] = refl
shape_stays parts (run ∷ runs) = shape_stays (with_copy parts run) runs

-- ---- the whole text

after_own : (key rest : List ℕ) → after_key key (key ++ rest) ≡ Some rest
after_own key rest =
    let none : length key ≡ length key + 0 = omega arith in
    let front : take (length key) (key ++ rest) ≡ key = ap (λ (k : ℕ). take k (key ++ rest)) none ∙ take_beyond key rest 0 ∙ append-nil key in
    let back : drop (length key) (key ++ rest) ≡ rest = ap (λ (k : ℕ). drop k (key ++ rest)) none ∙ drop_beyond key rest 0 in
    let starts : starts_with nat_eq (key ++ rest) key ≡ true = ap (λ (t : List ℕ). bytes_eq key t) front ∙ bytes_same key in
    ap (λ (b : Bool). cond b (Some (drop (length key) (key ++ rest))) None) starts ∙ ap (λ (t : List ℕ). Some t) back

front_found : (first : Entries) (rest : List ℕ) → IsTree first → map.len first ≤ 65536 → front_of (front_text first ++ rest) ≡ Some (front_text first)
unfolding front_of front_text
front_found first rest tree few =
    ap (λ (t : List ℕ). option_map front_text (tree_if_any (inventory_of t))) (append_assoc (inventory_text first) (codes "== calls\n") rest)
    ∙ ap (λ r. option_map front_text (tree_if_any r)) (reads_again first (codes "== calls\n" ++ rest) tree few)

header_starts : (words : HeaderLine) → (starts_with nat_eq (header_line words) (codes "# unitroot-history ") ≡ true) × (starts_with nat_eq (header_line words) (codes "# unitroot-history 1 ") ≡ true)
unfolding header_front header_mark
header_starts words = (refl, refl)

header_read : (front : List ℕ) (header : Header) → IsHeader header
    → let words : HeaderLine = record { header = header; sum = sum_of (front ++ header_front header) } in
    read_header front (header_line words) ≡ Ok words
unfolding read_header
header_read front header is =
    let words : HeaderLine = record { header = header; sum = sum_of (front ++ header_front header) } in
    let tests = header_starts words in
    rw tests.0 (rw tests.1 (
    ap (λ (o : Option HeaderLine). ok_or o faults.BadHeader >>= λ words. cond (bytes_eq (sum_of (front ++ header_front words.header)).bytes words.sum.bytes) (Ok words) (Err faults.SumDiffers))
    (header_back words is (sum_of_is_sum (front ++ header_front header)))
    ∙ ap (λ (b : Bool). cond b (Ok words) (Err faults.SumDiffers)) (bytes_same words.sum.bytes)
    ))

few_enough : (n : ℕ) → n ≤ 2000000 → nat_lt 2000000 n ≡ false
few_enough n few = le-ltb 2000000 n few

gathered : (f h t e r : List ℕ) → ((f ++ h) ++ (t ++ e)) ++ r ≡ f ++ (((h ++ t) ++ e) ++ r)
gathered f h t e r = simp append_assoc

read_by_rest : (front bytes rest : List ℕ) → front_of bytes ≡ Some front → after_key front bytes ≡ Some rest → read_text bytes ≡ read_rest front rest
unfolding read_text
read_by_rest front bytes rest found after =
    ap (λ (o : Option (List ℕ)). ok_or o (1, faults.BadBeginning) >>= λ front. ok_or (after_key front bytes) (1, faults.BadBeginning) >>= λ rest. read_rest front rest) found
    ∙ ap (λ (o : Option (List ℕ)). ok_or o (1, faults.BadBeginning) >>= λ rest. read_rest front rest) after

read_by_lines : (front rest line : List ℕ) (lines : List (List ℕ)) → lines_of rest ≡ Some (line ∷ lines) → length (line ∷ lines) ≤ 2000000 → read_rest front rest ≡ read_all_lines front line lines
unfolding read_rest
read_by_lines front rest line lines are few =
    ap (λ (o : Option (List (List ℕ))). ok_or o (count_lines front + count_lines rest + 1, faults.CutShort) >>= read_counted front) are
    ∙ ap (λ (b : Bool). cond b (Err (count_lines front + 2000001, faults.TooManyLines)) (read_all_lines front line lines)) (few_enough (length (line ∷ lines)) few)

module _ (first : Entries) (header : Header) (runs : List Run) (is : IsHeader header) (are : AreRuns runs) where
  parts : Parts
  parts = begun_parts first header

  front : List ℕ
  front = front_text first

  words : HeaderLine
  words = record { header = header; sum = sum_of (front ++ header_front header) }

  lines : List (List ℕ)
  lines = all_lines parts runs are

  whole_is_lines : begun_text first header ++ runs_text parts runs ≡ front ++ lines_text (header_line words ∷ lines)
  unfolding parts front words lines sum_end
  whole_is_lines =
      gathered (front_text first) (header_front header) (text_sum words.sum) (codes "\n") (runs_text (begun_parts first header) runs)
      ∙ ap (λ (r : List ℕ). front ++ ((header_line words ++ codes "\n") ++ r)) (runs_are_lines (begun_parts first header) runs are)

  lines_read : read_all_lines front (header_line words) lines ≡ Ok (with_runs parts runs)
  unfolding parts front words lines closed
  lines_read =
      let all : List (List ℕ) = all_lines (begun_parts first header) runs are in
      let before : ℕ = count_lines (front_text first) in
      let number : before + 2 ≡ before + 1 + 1 = omega arith in
      let counted = lines_counted (begun_parts first header) runs are in
      let count : length all + 1 ≡ (with_runs (begun_parts first header) runs).lines = omega (arith, counted) in
      let found = header_read (front_text first) header is in
      ap (λ r. at_line (before + 1) r >>= λ words. read_lines (nothing_read words.sum) (before + 2) all >>= λ runs. Ok (record { header = words.header; runs = runs; before = before; lines = length all + 1 })) found
      ∙ ap (λ (k : ℕ). read_lines (nothing_read words.sum) k all >>= λ runs. Ok (record { header = header; runs = runs; before = before; lines = length all + 1 })) number
      ∙ ap (λ r. r >>= λ runs. Ok (record { header = header; runs = runs; before = before; lines = length all + 1 })) (runs_read (begun_parts first header) runs are)
      ∙ ap (λ (k : ℕ). Ok (record { header = header; runs = (with_runs (begun_parts first header) runs).runs; before = before; lines = k })) count
      ∙ ap (λ (p : Parts). Ok p) (sym (shape_stays (begun_parts first header) runs))

  text_read : IsTree first → map.len first ≤ 65536 → (with_runs parts runs).lines ≤ 2000000 → read_text (begun_text first header ++ runs_text parts runs) ≡ Ok (with_runs parts runs)
  unfolding parts front words lines
  text_read tree few small =
      let all : List (List ℕ) = all_lines (begun_parts first header) runs are in
      let rest : List ℕ = lines_text (header_line words ∷ all) in
      let counted = lines_counted (begun_parts first header) runs are in
      let are_few : length (header_line words ∷ all) ≤ 2000000 = omega (arith, counted, small) in
      let have_lines : are_lines (header_line words ∷ all) ≡ true = rw (header_is_line words) (all_have_lines (begun_parts first header) runs are) in
      ap read_text whole_is_lines
      ∙ read_by_rest (front_text first) (front_text first ++ rest) rest (front_found first rest tree few) (after_own (front_text first) rest)
      ∙ read_by_lines (front_text first) rest (header_line words) all (lines_of-lines_text (header_line words) all have_lines) are_few
      ∙ lines_read

pub texts_are_read : TextsAreRead
unfolding parts
texts_are_read first header runs tree few is are small = text_read first header runs is are tree few small
