-- Comments between lines, and one file after another.
use Rattle.std.proofs.Common.{◌≡◌, refl, ℕ, ◌+◌, ◌-◌, ◌<◌, ◌==◌, ◌||◌, Bool, true, false, not, cond, List, [], ◌∷◌, ◌++◌, length, get_or, take, map, fold, Option, Some, None, sym, ap, ◌∙◌, arith, append_assoc}
use Rattle.std.specs.List.{list_any, slice_get, filter_map, flat_map, find, take_while, last_or}
use Rattle.std.specs.Option.{option_map_or, option_or}
use Rattle.std.specs.Str.Lines.{lines, strip_carriage_return}
use Rattle.std.proofs.lemmas.Bool.{eqb-true}
use Rattle.std.proofs.lemmas.List.{take_more, take_all, map-append}
use Rattle.std.proofs.lemmas.List.Elements.{filter-append, filter_map-append}
use Rattle.std.proofs.lemmas.List.Folds.{find-append}
use Rattle.std.proofs.lemmas.List.Sums.{fold-append, take_while-cons}
use Rattle.unit_file.specs.Lines.{is_blank, is_comment, ends_with, onto_next, joined, joined_lines, stripped, logical_lines}
use Rattle.unit_file.specs.Install.{is_empty, opens_section, is_install, install_lines, value_of, values, words, list_of}
use Rattle.unit_file.specs.Steps.{with_value}
use Rattle.unit_file.specs.Reading.{is_too_long}
use Rattle.unit_file.specs.Laws.{are_whole_lines, waits, begins_with_section, AreReadAlike}
use Rattle.unit_file.proofs.PhysicalLines.{is_lf, lines-first}
use Rattle.unit_file.proofs.Joining.{kept}
use Rattle.unit_file.proofs.Folding.{no_section, list-fold, list_of-fold}
use Rattle.unit_file.proofs.Endings.{lines-append, said, alike_from_joined, joined-one, joined-more, joined-nil}

abbrev not_blank : ℕ → Bool
not_blank b = not (is_blank b)

or-none : {X : Type 0} (o : Option X) → option_or o None ≡ o
or-none None = refl
or-none (Some x) = refl

-- a CR at its end makes no difference to a comment
find-cr : (front : List ℕ) → find not_blank (front ++ 13 ∷ []) ≡ find not_blank front
find-cr front = find-append not_blank front (13 ∷ []) ∙ or-none (find not_blank front)

front_and_last : (line : List ℕ) (b : ℕ) → 0 < length line → get_or line (length line - 1) 0 ≡ b → line ≡ take (length line - 1) line ++ b ∷ []
front_and_last line b some last =
    let place : length line - 1 + 1 ≡ length line = omega arith in
    sym (take_all (length line) line (omega arith)) ∙ ap (λ n. take n line) (sym place) ∙ take_more line (length line - 1) 0 (omega arith) ∙ ap (λ x. take (length line - 1) line ++ x ∷ []) last

pub is_comment-push_cr : (front : List ℕ) → is_comment (front ++ 13 ∷ []) ≡ is_comment front
unfolding is_comment
is_comment-push_cr front = ap (λ o. option_map_or (λ b. b == 35 || b == 59) o false) (find-cr front)

is_comment-strip : (line : List ℕ) → is_comment (strip_carriage_return line) ≡ is_comment line
is_comment-strip [] = refl
is_comment-strip (b ∷ bs) =
    let line = b ∷ bs in
    let last = get_or line (length line - 1) 0 in
    elim (last == 13) as (λ t. (last == 13) ≡ t → is_comment (cond t (take (length line - 1) line) line) ≡ is_comment line) [
      | true ↦ λ cr. sym (ap is_comment (front_and_last line 13 (omega arith) (eqb-true last 13 cr)) ∙ is_comment-push_cr (take (length line - 1) line))
      | false ↦ λ _. refl
    ] refl

pub kept-append : (one other : List (List ℕ)) → kept (one ++ other) ≡ kept one ++ kept other
kept-append one other = filter-append (λ line. not (is_comment line)) one other

kept-comment : (line : List ℕ) (rest : List (List ℕ)) → is_comment line ≡ true → kept (line ∷ rest) ≡ kept rest
kept-comment line rest comment = rw comment refl

-- A comment between two lines has no effect.
pub alike-comment : (before comment after : List ℕ) → are_whole_lines before ≡ true → is_comment comment ≡ true → list_any is_lf comment ≡ false → AreReadAlike (before ++ ((comment ++ 10 ∷ []) ++ after)) (before ++ after)
alike-comment before comment after whole is none =
    let line = (comment ++ 10 ∷ []) ++ after in
    let first : lines line ≡ strip_carriage_return comment ∷ lines after = ap lines (append_assoc comment (10 ∷ []) after) ∙ lines-first comment after none in
    let dropped : kept (lines line) ≡ kept (lines after) = ap kept first ∙ kept-comment (strip_carriage_return comment) (lines after) (is_comment-strip comment ∙ is) in
    let with : kept (lines (before ++ line)) ≡ kept (lines before) ++ kept (lines after) = ap kept (lines-append before line whole) ∙ kept-append (lines before) (lines line) ∙ ap (λ ls. kept (lines before) ++ ls) dropped in
    let without : kept (lines (before ++ after)) ≡ kept (lines before) ++ kept (lines after) = ap kept (lines-append before after whole) ∙ kept-append (lines before) (lines after) in
    let same : joined_lines (before ++ line) ≡ joined_lines (before ++ after) = ap joined (with ∙ sym without) in
    alike_from_joined (before ++ line) (before ++ after) (ap said same) (ap (list_any is_too_long) same)

-- Joined lines, if the last of the first ones doesn't continue.
onto_next-append : (text : List ℕ) (lines others : List (List ℕ)) → 0 < length lines → onto_next text (lines ++ others) ≡ onto_next text lines ++ others
onto_next-append text [] others some = absurd (omega arith)
onto_next-append text (line ∷ lines) others some = refl

length-onto_next : (text : List ℕ) (lines : List (List ℕ)) → 0 < length (onto_next text lines)
length-onto_next text [] = omega arith
length-onto_next text (line ∷ lines) = omega arith

pub joined-some : (line : List ℕ) (rest : List (List ℕ)) → 0 < length (joined (line ∷ rest))
joined-some line rest =
    elim (ends_with 92 line) as (λ t. ends_with 92 line ≡ t → 0 < length (joined (line ∷ rest))) [
      | true ↦ λ ends. rw (joined-more line rest ends) (length-onto_next (take (length line - 1) line ++ 32 ∷ []) (joined rest))
      | false ↦ λ none. rw (joined-one line rest none) (omega arith)
    ] refl

abbrev waits_after : Option (List ℕ) → List (List ℕ) → Bool
waits_after o lines = option_map_or (ends_with 92) (last_or o lines) false

-- a line that continues has another after it, if the last line doesn't continue
waiting : (line : List ℕ) (rest : List (List ℕ)) → ends_with 92 line ≡ true → waits_after (Some line) rest ≡ false → 0 < length (joined rest)
waiting line [] ends none = absurd (cc)
waiting line (next ∷ rest) ends none = joined-some next rest

joined-append : (o : Option (List ℕ)) (lines others : List (List ℕ)) → waits_after o lines ≡ false → joined (lines ++ others) ≡ joined lines ++ joined others
joined-append o [] others none = ap (λ ls. ls ++ joined others) (sym joined-nil)
joined-append o (line ∷ rest) others none =
    let more = joined-append (Some line) rest others none in
    elim (ends_with 92 line) as (λ t. ends_with 92 line ≡ t → joined (line ∷ (rest ++ others)) ≡ joined (line ∷ rest) ++ joined others) [
      | true ↦ λ ends.
          let text = take (length line - 1) line ++ 32 ∷ [] in
          joined-more line (rest ++ others) ends ∙ ap (onto_next text) more ∙ onto_next-append text (joined rest) (joined others) (waiting line rest ends none) ∙ ap (λ ls. ls ++ joined others) (sym (joined-more line rest ends))
      | false ↦ λ ends.
          joined-one line (rest ++ others) ends ∙ ap (λ ls. line ∷ ls) more ∙ ap (λ ls. ls ++ joined others) (sym (joined-one line rest ends))
    ] refl

logical-append : (one other : List ℕ) → are_whole_lines one ≡ true → waits one ≡ false → logical_lines (one ++ other) ≡ logical_lines one ++ logical_lines other
logical-append one other whole none =
    let apart : kept (lines (one ++ other)) ≡ kept (lines one) ++ kept (lines other) = ap kept (lines-append one other whole) ∙ kept-append (lines one) (lines other) in
    ap (λ ls. map stripped (joined ls)) apart ∙ ap (map stripped) (joined-append None (kept (lines one)) (kept (lines other)) none) ∙ map-append stripped (joined_lines one) (joined_lines other)

-- The lines of [Install], if the second list begins with a section.
take_while-stops : (lines : List (List ℕ)) (line : List ℕ) (more : List (List ℕ)) → opens_section line ≡ true → take_while no_section (lines ++ line ∷ more) ≡ take_while no_section lines
take_while-stops [] line more opens = let stops : take_while no_section (line ∷ more) ≡ [] = rw (take_while-cons no_section line more, opens) refl in stops
take_while-stops (x ∷ xs) line more opens =
    take_while-cons no_section x (xs ++ line ∷ more) ∙ ap (λ ls. cond (no_section x) (x ∷ ls) []) (take_while-stops xs line more opens) ∙ sym (take_while-cons no_section x xs)

install_lines-append : (lines : List (List ℕ)) (line : List ℕ) (more : List (List ℕ)) → opens_section line ≡ true → install_lines (lines ++ line ∷ more) ≡ install_lines lines ++ install_lines (line ∷ more)
unfolding install_lines
install_lines-append [] line more opens = refl
install_lines-append (x ∷ xs) line more opens =
    let rest = install_lines-append xs line more opens in
    let front = take_while-stops xs line more opens in
    elim (is_install x) as (λ t. cond t (take_while no_section (xs ++ line ∷ more) ++ install_lines (xs ++ line ∷ more)) (install_lines (xs ++ line ∷ more)) ≡ cond t (take_while no_section xs ++ install_lines xs) (install_lines xs) ++ install_lines (line ∷ more)) [
      | true ↦ (λ i. front i ++ rest i) ∙ sym (append_assoc (take_while no_section xs) (install_lines xs) (install_lines (line ∷ more)))
      | false ↦ rest
    ]

values-append : (key : List ℕ) (lines others : List (List ℕ)) → option_map_or opens_section (slice_get others 0) false ≡ true → values key (lines ++ others) ≡ values key lines ++ values key others
values-append key lines [] opens = absurd (cc)
values-append key lines (line ∷ more) opens = ap (filter_map (value_of key)) (install_lines-append lines line more opens) ∙ filter_map-append (value_of key) (install_lines lines) (install_lines (line ∷ more))

pub values_add_up : (one other key : List ℕ) → are_whole_lines one ≡ true → waits one ≡ false → begins_with_section other ≡ true → values key (logical_lines (one ++ other)) ≡ values key (logical_lines one) ++ values key (logical_lines other)
values_add_up one other key whole none opens = ap (values key) (logical-append one other whole none) ∙ values-append key (logical_lines one) (logical_lines other) opens

-- Lists
list_of-append : (first second : List (List ℕ)) → list_of (first ++ second) ≡ cond (list_any is_empty second) (list_of second) (list_of first ++ flat_map words second)
list_of-append first second =
    sym (list_of-fold (first ++ second))
    ∙ fold-append with_value [] first second
    ∙ ap (λ list. fold with_value list second) (list_of-fold first)
    ∙ list-fold (list_of first) second

pub lists_add_up : (first second : List (List ℕ)) → (list_any is_empty second ≡ false → list_of (first ++ second) ≡ list_of first ++ list_of second) × (list_any is_empty second ≡ true → list_of (first ++ second) ≡ list_of second)
lists_add_up first second = (
  λ none.
      let alone : list_of second ≡ flat_map words second = sym (list_of-fold second) ∙ list-fold [] second ∙ rw none refl in
      list_of-append first second ∙ ap (λ t. cond t (list_of second) (list_of first ++ flat_map words second)) none ∙ ap (λ ws. list_of first ++ ws) (sym alone),
  λ any. list_of-append first second ∙ ap (λ t. cond t (list_of second) (list_of first ++ flat_map words second)) any,
)
