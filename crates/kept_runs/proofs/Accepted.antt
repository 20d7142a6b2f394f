-- The lines of calls, and those of what others did, can be appended as a run.
use Rattle.std.proofs.Common.{◌≡◌, ◌==◌, ◌&&◌, ℕ, Bool, true, false, List, [], ◌∷◌, Option, Some, None, Result, Ok, Err, refl, sym, ap, subst, ◌∙◌, All, inl, inr}
use Rattle.std.specs.Prelude.{not, nat_lt, if◌then◌else◌, length, IfOk}
use Rattle.std.specs.List.{filter, list_all, slice_split, onto_first}
use Rattle.std.proofs.lemmas.Bool.{and_parts, and_from, cases_Bool, false≢true, eqb-true}
use Rattle.std.proofs.lemmas.List.Folds.{list_all-append}
use Rattle.link_tree.specs.declared.change.Change.{Change}
use Rattle.link_tree.specs.declared.entry.Entry.{Entry}
use Rattle.script_words.specs.Words.{is_line_byte, lines_text}
use Rattle.unit_script.specs.declared.reason.Reason.TheVariants.{LineTooLong}
use Rattle.unit_script.specs.Laws.{is_line}
use Rattle.unit_script.specs.Script.{call_of_line}
use Rattle.kept_rows.specs.Lines.{CanBeWritten, lines_at, lines_of_change, lines_of_others}
use Rattle.kept_rows.proofs.OtherLines.{lines_of_others_are_read}
use Rattle.kept_texts.specs.Texts.{begins_comment, are_call_lines}
use Rattle.kept_texts.specs.Laws.{is_call_line}
use Rattle.kept_texts.proofs.CallLines.{lines_are_call_lines}
use Rattle.kept_runs.specs.Lines.{is_line_end, is_call, has_call, call_lines}

abbrev are_whole : List (List ℕ) → Bool
are_whole lines = list_all (list_all is_line_byte) lines

-- a part between line ends has none
one_more : (b : ℕ) (parts : List (List ℕ)) → is_line_end b ≡ false → are_whole parts ≡ true → are_whole (onto_first b parts) ≡ true
one_more b [] other are = ap (λ (t : Bool). (not t && true) && true) other
one_more b (part ∷ parts) other are = ap (λ (t : Bool). (not t && list_all is_line_byte part) && are_whole parts) other ∙ are

parts_are_whole : (text : List ℕ) → are_whole (slice_split is_line_end text) ≡ true
parts_are_whole [] = refl
parts_are_whole (b ∷ text) = elim (cases_Bool (is_line_end b)) [
  | inl end ↦ rw end (parts_are_whole text)
  | inr other ↦ rw other (one_more b (slice_split is_line_end text) other (parts_are_whole text))
]

-- a comment has no call
comment_has_none : (line : List ℕ) → has_call (35 ∷ line) ≡ false
unfolding call_of_line
comment_has_none line = of_both (nat_lt 65536 (length (35 ∷ line)))
  where
    of_both : (long : Bool) → is_call (if long then Err LineTooLong else Ok None) ≡ false
    of_both true = refl
    of_both false = refl

no_comment : (line : List ℕ) → has_call line ≡ true → not (begins_comment line) ≡ true
no_comment [] has = refl
no_comment (b ∷ line) has = elim (cases_Bool (begins_comment (b ∷ line))) [
  | inl begins ↦
      let same : 35 ≡ b = eqb-true 35 b (and_parts (35 == b) true begins).0 in
      let comment : has_call (35 ∷ line) ≡ true = subst (λ (k : ℕ). has_call (k ∷ line) ≡ true) (sym same) has in
      absurd (false≢true (sym (comment_has_none line) ∙ comment))
  | inr other ↦ ap not other
]

lines_with_calls : (lines : List (List ℕ)) → are_whole lines ≡ true → list_all is_call_line (filter has_call lines) ≡ true
lines_with_calls [] are = refl
lines_with_calls (line ∷ lines) are =
    let parts = and_parts (list_all is_line_byte line) (are_whole lines) are in
    elim (cases_Bool (has_call line)) [
      | inl has ↦ rw has (and_from (is_call_line line) (list_all is_call_line (filter has_call lines))
          (and_from (list_all is_line_byte line) (not (begins_comment line)) parts.0 (no_comment line has)) (lines_with_calls lines parts.1))
      | inr none ↦ rw none (lines_with_calls lines parts.1)
    ]

pub call_lines_are_accepted : (text : List ℕ) → are_call_lines (call_lines text) ≡ true
call_lines_are_accepted text = lines_are_call_lines (filter has_call (slice_split is_line_end text)) (lines_with_calls (slice_split is_line_end text) (parts_are_whole text))

pub accepted_if_read : {R E : Type 0} (r : Result R E) (text_of : R → List ℕ) (pieces : List (List ℕ)) (text : List ℕ) → IfOk r (λ read. text_of read ≡ lines_text (filter has_call pieces)) → pieces ≡ slice_split is_line_end text
    → IfOk r (λ read. are_call_lines (text_of read) ≡ true)
accepted_if_read (Ok read) text_of pieces text is same = ap are_call_lines (is ∙ ap (λ parts. lines_text (filter has_call parts)) same) ∙ call_lines_are_accepted text
accepted_if_read (Err e) text_of pieces text is same = tt

-- the lines of what others did begin with the name `outside`
named_at : (path : List ℕ) (before after : Option Entry) → list_all (λ (line : List ℕ). not (begins_comment line)) (lines_at path before after) ≡ true
named_at path None None = refl
named_at path (Some old) None = refl
named_at path None (Some new) = refl
named_at path (Some old) (Some new) = refl

all_named : (changes : List Change) → list_all (λ (line : List ℕ). not (begins_comment line)) (lines_of_others changes) ≡ true
all_named [] = refl
all_named (c ∷ cs) =
    list_all-append (λ (line : List ℕ). not (begins_comment line)) (lines_of_change c) (lines_of_others cs)
    ∙ and_from (list_all (λ (line : List ℕ). not (begins_comment line)) (lines_of_change c)) (list_all (λ (line : List ℕ). not (begins_comment line)) (lines_of_others cs))
    (named_at c.path c.before c.after) (all_named cs)

both_are : (lines : List (List ℕ)) → list_all is_line lines ≡ true → list_all (λ (line : List ℕ). not (begins_comment line)) lines ≡ true → list_all is_call_line lines ≡ true
both_are [] are named = refl
both_are (line ∷ lines) are named =
    let whole = and_parts (is_line line) (list_all is_line lines) are in
    let here = and_parts (not (begins_comment line)) (list_all (λ (line : List ℕ). not (begins_comment line)) lines) named in
    and_from (is_call_line line) (list_all is_call_line lines)
    (and_from (list_all is_line_byte line) (not (begins_comment line)) (and_parts (list_all is_line_byte line) _ whole.0).0 here.0)
    (both_are lines whole.1 here.1)

pub lines_of_others_are_accepted : (changes : List Change) → All CanBeWritten changes → are_call_lines (lines_text (lines_of_others changes)) ≡ true
lines_of_others_are_accepted changes can =
    lines_are_call_lines (lines_of_others changes) (both_are (lines_of_others changes) (lines_of_others_are_read changes 1 can).0 (all_named changes))
