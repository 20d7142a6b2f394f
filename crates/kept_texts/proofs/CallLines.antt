-- The lines that can be appended as a run are lines of calls, each with its end.
use Rattle.std.proofs.Common.{◌≡◌, ◌-◌, ◌==◌, ◌&&◌, ◌||◌, ℕ, suc, Bool, true, false, List, [], ◌∷◌, ◌++◌, codes, length, drop, refl, sym, ap, subst, ◌∙◌, append_assoc, arith, inl, inr}
use Rattle.std.specs.Prelude.{not, nat_eq}
use Rattle.std.specs.List.{list_all, list_any, slice_split, onto_first, ends_with}
use Rattle.std.specs.Str.{bytes_eq}
use Rattle.std.proofs.lemmas.Bool.{and_parts, and_from, cases_Bool, false≢true, eqb-true}
use Rattle.script_words.specs.Words.{is_line_byte, lines_text}
use Rattle.kept_texts.specs.Readings.{is_line_end}
use Rattle.kept_texts.specs.Texts.{begins_comment, are_whole, are_call_lines}
use Rattle.kept_texts.specs.Laws.{is_call_line, CallLinesAreLines, LinesAreCallLines}
use Rattle.kept_texts.proofs.PartBytes.{bytes_same, same_bytes}
use Rattle.kept_texts.proofs.LineSplits.{last, are_lines, split_line, last_end}

-- a text is these lines, each with its end
record AreLines (text : List ℕ) (lines : List (List ℕ)) : Type 0 where
  pub is : text ≡ lines_text lines
  pub split : slice_split is_line_end text ≡ lines ++ [] ∷ []
  pub clean : are_lines lines ≡ true

HasLines : List ℕ → Type 0
HasLines text = (lines : List (List ℕ)) × AreLines text lines

no_lines : AreLines [] []
no_lines = record { is = refl; split = refl; clean = refl }

-- one more byte in front
end_in_front : (b : ℕ) (text : List ℕ) (lines : List (List ℕ)) → is_line_end b ≡ true → AreLines text lines → AreLines (b ∷ text) ([] ∷ lines)
end_in_front b text lines end are = record {
  is = ap (λ (k : ℕ). k ∷ text) (eqb-true b 10 end) ∙ ap (λ (t : List ℕ). 10 ∷ t) are.is;
  split = rw end (ap (λ (ps : List (List ℕ)). [] ∷ ps) are.split);
  clean = are.clean;
}

byte_in_front : (b : ℕ) (text line : List ℕ) (lines : List (List ℕ)) → is_line_end b ≡ false → AreLines text (line ∷ lines) → AreLines (b ∷ text) ((b ∷ line) ∷ lines)
byte_in_front b text line lines other are = record {
  is = ap (λ (t : List ℕ). b ∷ t) are.is;
  split = rw other (ap (onto_first b) are.split);
  clean = ap (λ (t : Bool). (not t && list_all is_line_byte line) && are_lines lines) other ∙ are.clean;
}

-- a last byte that isn't empty is that of the rest
last_of_more : (b c : ℕ) (text : List ℕ) → last (b ∷ c ∷ text) ≡ last (c ∷ text)
unfolding last
last_of_more b c text =
    let more : length (b ∷ c ∷ text) - 1 ≡ suc (length text) = omega arith in
    let less : length (c ∷ text) - 1 ≡ length text = omega arith in
    ap (λ (k : ℕ). drop k (b ∷ c ∷ text)) more ∙ ap (λ (k : ℕ). drop k (c ∷ text)) (sym less)

last_of_one : (b : ℕ) → last (b ∷ []) ≡ b ∷ []
unfolding last
last_of_one b = refl

in_front : (b c : ℕ) (text : List ℕ) (lines : List (List ℕ)) → AreLines (c ∷ text) lines → HasLines (b ∷ c ∷ text)
unfolding HasLines
in_front b c text [] are = let none : c ∷ text ≡ [] = are.is in absurd (cc)
in_front b c text (line ∷ lines) are = elim (cases_Bool (is_line_end b)) [
  | inl end ↦ ([] ∷ line ∷ lines, end_in_front b (c ∷ text) (line ∷ lines) end are)
  | inr other ↦ ((b ∷ line) ∷ lines, byte_in_front b (c ∷ text) line lines other are)
]

first_of_both : (b c : ℕ) (bs cs : List ℕ) → b ∷ bs ≡ c ∷ cs → b ≡ c
first_of_both b c bs cs same = cc

ends : (b : ℕ) (text : List ℕ) → last (b ∷ text) ≡ codes "\n" → HasLines (b ∷ text)
unfolding HasLines
ends b [] end =
    let is : b ≡ 10 = first_of_both b 10 [] [] (sym (last_of_one b) ∙ end) in
    subst (λ (k : ℕ). HasLines (k ∷ [])) (sym is) ([] ∷ [], end_in_front 10 [] [] refl no_lines)
ends b (c ∷ text) end = let more = ends c text (sym (last_of_more b c text) ∙ end) in in_front b c text more.0 more.1

not_zero : (n : ℕ) → (suc n == 0) ≡ false
not_zero n = elim (cases_Bool (suc n == 0)) [
  | inl is ↦ let same : suc n ≡ 0 = eqb-true (suc n) 0 is in absurd (cc)
  | inr other ↦ other
]

-- whether the text is empty or ends with a line end
whole : (text : List ℕ) → are_whole text ≡ true → HasLines text
unfolding HasLines last
whole [] is = ([], no_lines)
whole (b ∷ text) is = ends b text (sym (same_bytes (codes "\n") (last (b ∷ text)) (is_last (length (b ∷ text) == 0) (ends_with nat_eq (b ∷ text) (codes "\n")) (not_zero (length text)) is)))
  where
    is_last : (none end : Bool) → none ≡ false → (none || end) ≡ true → end ≡ true
    is_last true end some h = cc
    is_last false end some h = h

calls_only : (lines : List (List ℕ)) → are_lines lines ≡ true → list_any begins_comment (lines ++ [] ∷ []) ≡ false → list_all is_call_line lines ≡ true
calls_only [] clean none = refl
calls_only (line ∷ lines) clean none =
    let parts = and_parts (list_all is_line_byte line) (are_lines lines) clean in
    let here = neither (begins_comment line) (list_any begins_comment (lines ++ [] ∷ [])) none in
    rw parts.0 (rw here.0 (calls_only lines parts.1 here.1))
  where
    neither : (a b : Bool) → (a || b) ≡ false → (a ≡ false) × (b ≡ false)
    neither true b h = absurd (false≢true (sym h))
    neither false b h = (refl, h)

of_not : (b : Bool) → not b ≡ true → b ≡ false
of_not true h = absurd (false≢true h)
of_not false h = refl

pub call_lines_are_lines : CallLinesAreLines
unfolding are_call_lines HasLines
call_lines_are_lines text is =
    let parts = and_parts (are_whole text) (not (list_any begins_comment (slice_split is_line_end text))) is in
    let found = whole text parts.0 in
    let none : list_any begins_comment (slice_split is_line_end text) ≡ false = of_not (list_any begins_comment (slice_split is_line_end text)) parts.1 in
    (found.0, found.1.is, calls_only found.0 found.1.clean (sym (ap (list_any begins_comment) found.1.split) ∙ none))

-- with the end of the last line, an empty part comes last
split_all : (lines : List (List ℕ)) → are_lines lines ≡ true → slice_split is_line_end (lines_text lines) ≡ lines ++ [] ∷ []
split_all [] are = refl
split_all (line ∷ lines) are =
    let parts = and_parts (list_all is_line_byte line) (are_lines lines) are in
    ap (slice_split is_line_end) (append_assoc line (codes "\n") (lines_text lines))
    ∙ split_line line (lines_text lines) parts.0
    ∙ ap (λ (ls : List (List ℕ)). line ∷ ls) (split_all lines parts.1)

text_is_whole : (lines : List (List ℕ)) → are_whole (lines_text lines) ≡ true
unfolding last
text_is_whole [] = refl
text_is_whole (line ∷ lines) =
    or_last (length (lines_text (line ∷ lines)) == 0) (ends_with nat_eq (lines_text (line ∷ lines)) (codes "\n"))
    (ap (bytes_eq (codes "\n")) (last_end line lines) ∙ bytes_same (codes "\n"))
  where
    or_last : (a b : Bool) → b ≡ true → (a || b) ≡ true
    or_last true b h = refl
    or_last false b h = h

clean_lines : (lines : List (List ℕ)) → list_all is_call_line lines ≡ true → (are_lines lines ≡ true) × (list_any begins_comment (lines ++ [] ∷ []) ≡ false)
clean_lines [] are = (refl, refl)
clean_lines (line ∷ lines) are =
    let parts = and_parts (is_call_line line) (list_all is_call_line lines) are in
    let here = and_parts (list_all is_line_byte line) (not (begins_comment line)) parts.0 in
    let rest = clean_lines lines parts.1 in
    (and_from (list_all is_line_byte line) (are_lines lines) here.0 rest.0, rw (of_not (begins_comment line) here.1) rest.1)

pub lines_are_call_lines : LinesAreCallLines
unfolding are_call_lines
lines_are_call_lines lines are =
    let clean = clean_lines lines are in
    and_from (are_whole (lines_text lines)) (not (list_any begins_comment (slice_split is_line_end (lines_text lines)))) (text_is_whole lines)
    (ap (λ (ls : List (List ℕ)). not (list_any begins_comment ls)) (split_all lines clean.0) ∙ ap not clean.1)
