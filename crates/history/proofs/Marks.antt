-- The marks of rows are those that result from their undos and redos.
use Rattle.std.proofs.Common.{◌≡◌, ◌+◌, ◌<◌, ◌≤◌, ◌==◌, ◌⊎◌, ℕ, zero, suc, Bool, false, cond, List, [], ◌∷◌, ◌++◌, Option, Some, None, slice_get, length, refl, sym, ap, ◌∙◌, arith, inl, inr}
use Rattle.std.proofs.lemmas.Bool.{cases_Bool, false≢true}
use Rattle.std.proofs.lemmas.Bool.Decides.{Decides-eqb}
use Rattle.link_tree.specs.Trees.{Entries}
use Rattle.footprint.specs.Inquiry.{Inquiry}
use Rattle.footprint.specs.Operations.{Effect, outcome_of}
use Rattle.history.specs.declared.row.UndoRefusal.{UndoRefusal}
use Rattle.history.specs.declared.row.RedoRefusal.{RedoRefusal}
use Rattle.history.specs.declared.row.Row.{Row}
use Rattle.history.specs.declared.row.Request.TheVariants.{Do, Undo, Redo}
use Rattle.history.specs.declared.row.RowReply.{RowReply}
use Rattle.history.specs.declared.row.RowReply.TheVariants.{Answered, Undid, UndoRefused, Redid, RedoRefused}
use Rattle.history.specs.Rows.{Call, row_at, answered, row_of_undo, row_of_redo, mark, undoer_then, undoer_from, undoer, undone_by_at, MarksAgree, rows_undone, rows_redone, undo_refusal, redo_refusal, replay, rows_after, run}
use Rattle.history.proofs.Places.{other_marked, marked_here}
use Rattle.history.proofs.Replayed.{length-mark, free_row}
use Rattle.history.proofs.Restored.{free_redo}

pub no_rows : (O : Type 0) → MarksAgree {O = O} []
no_rows O zero = refl
no_rows O (suc k) = refl

other_number : (k n : ℕ) → (k ≡ n → ⊥) → (k == n) ≡ false
other_number k n away = elim (cases_Bool (k == n)) [
  | inl same ↦ absurd (away ((Decides-eqb k n).0 same))
  | inr none ↦ none
]

-- a row is undone by an earlier row or by this one
then_range : (reply : RowReply) (at n : ℕ) (by : Option ℕ) (u : ℕ) → undoer_then reply at n by ≡ Some u → (by ≡ Some u) ⊎ (u ≡ at)
then_range (Answered answer) at n by u h = inl h
then_range (Undid k) at n by u h = elim (cases_Bool (k == n)) [
  | inl same ↦ (let made : Some at ≡ Some u = sym (ap (λ b. cond b (Some at) by) same) ∙ h in inr (cc))
  | inr other ↦ inl (sym (ap (λ b. cond b (Some at) by) other) ∙ h)
]
then_range (UndoRefused refusal) at n by u h = inl h
then_range (Redid k) at n by u h = elim (cases_Bool (k == n)) [
  | inl same ↦ (let never : None ≡ Some u = sym (ap (λ b. cond b None by) same) ∙ h in absurd (cc))
  | inr other ↦ inl (sym (ap (λ b. cond b None by) other) ∙ h)
]
then_range (RedoRefused refusal) at n by u h = inl h

module _ {O : Type 0} where
  undoer-range : (rows : List (Row O)) (at n : ℕ) (by : Option ℕ) (u : ℕ) → undoer_from rows at n by ≡ Some u → (by ≡ Some u) ⊎ ((at ≤ u) × (u < at + length rows))
  undoer-range [] at n by u h = inl h
  undoer-range (row ∷ rows) at n by u h = elim (undoer-range rows (at + 1) n (undoer_then row.reply at n by) u h) [
    | inl first ↦ elim (then_range row.reply at n by u first) [
      | inl before ↦ inl before
      | inr here ↦ inr (omega (arith, here), omega (arith, here))
    ]
    | inr later ↦ inr (omega (arith, later.0), omega (arith, later.1))
  ]

  -- a mark is the number of a row
  pub mark_range : (rows : List (Row O)) (n : ℕ) (row : Row O) (u : ℕ) → MarksAgree rows → row_at rows n ≡ Some row → row.undone_by ≡ Some u → (1 ≤ u) × (u ≤ length rows)
  mark_range rows n row u marked is by = elim (undoer-range rows 1 n None u (sym (marked n) ∙ ap (λ (o : Option (Row O)). undone_by_at o) is ∙ by)) [
    | inl never ↦ absurd (cc)
    | inr range ↦ (range.0, omega (arith, range.1))
  ]

  -- the last row decides, if it names the row
  pub undoer-push : (rows : List (Row O)) (row : Row O) (at n : ℕ) (by : Option ℕ)
      → undoer_from (rows ++ row ∷ []) at n by ≡ undoer_then row.reply (at + length rows) n (undoer_from rows at n by)
  undoer-push [] row at n by = let same : at ≡ at + 0 = omega arith in ap (λ (i : ℕ). undoer_then row.reply i n by) same
  undoer-push (r ∷ rows) row at n by =
      let same : at + 1 + length rows ≡ at + suc (length rows) = omega arith in
      undoer-push rows row (at + 1) n (undoer_then r.reply at n by)
      ∙ ap (λ (i : ℕ). undoer_then row.reply i n (undoer_from rows (at + 1) n (undoer_then r.reply at n by))) same

  -- marking a row doesn't change the undos and redos
  pub undoer-mark : (rows : List (Row O)) (k : ℕ) (mark_by : Option ℕ) (at n : ℕ) (by : Option ℕ) → undoer_from (mark rows k mark_by) at n by ≡ undoer_from rows at n by
  undoer-mark [] k mark_by at n by = refl
  undoer-mark (r ∷ rows) zero mark_by at n by = refl
  undoer-mark (r ∷ rows) (suc k) mark_by at n by = undoer-mark rows k mark_by (at + 1) n (undoer_then r.reply at n by)

  pushed_at : (rows : List (Row O)) (row : Row O) → row.undone_by ≡ None → (k : ℕ) → undone_by_at (slice_get (rows ++ row ∷ []) k) ≡ undone_by_at (slice_get rows k)
  pushed_at [] row unmarked zero = unmarked
  pushed_at [] row unmarked (suc k) = refl
  pushed_at (r ∷ rows) row unmarked zero = refl
  pushed_at (r ∷ rows) row unmarked (suc k) = pushed_at rows row unmarked k

  -- a new row isn't marked
  pushed : (rows : List (Row O)) (row : Row O) → row.undone_by ≡ None → (n : ℕ) → undone_by_at (row_at (rows ++ row ∷ []) n) ≡ undone_by_at (row_at rows n)
  pushed rows row unmarked zero = refl
  pushed rows row unmarked (suc k) = pushed_at rows row unmarked k

  -- marking a row changes only its own mark
  marked : (rows : List (Row O)) (k : ℕ) (by : Option ℕ) (row : Row O) → slice_get rows k ≡ Some row → (n : ℕ)
      → undone_by_at (row_at (mark rows k by) n) ≡ cond (suc k == n) by (undone_by_at (row_at rows n))
  marked rows k by row is zero = let away : (suc k == zero) ≡ false = other_number (suc k) zero (λ same. omega (arith, same)) in ap (λ b. cond b by None) (sym away)
  marked rows k by row is (suc j) = elim (cases_Bool (suc k == suc j)) [
    | inl here ↦
        let same : j ≡ k = (let numbers : suc k ≡ suc j = (Decides-eqb (suc k) (suc j)).0 here in omega (arith, numbers)) in
        ap (λ (i : ℕ). undone_by_at (slice_get (mark rows k by) i)) same
        ∙ ap (λ (o : Option (Row O)). undone_by_at o) (marked_here rows k by row is)
        ∙ ap (λ b. cond b by (undone_by_at (slice_get rows j))) (sym here)
    | inr away ↦
        ap (λ (o : Option (Row O)). undone_by_at o) (other_marked rows k by j (λ same. false≢true (sym away ∙ (Decides-eqb (suc k) (suc j)).1 (ap suc (sym same)))))
        ∙ ap (λ b. cond b by (undone_by_at (slice_get rows j))) (sym away)
  ]

  -- a row is added that names none
  marks-push : (rows : List (Row O)) (row : Row O) → row.undone_by ≡ None → ((at n : ℕ) (by : Option ℕ) → undoer_then row.reply at n by ≡ by) → MarksAgree rows → MarksAgree (rows ++ row ∷ [])
  marks-push rows row unmarked names_none h = λ n.
      pushed rows row unmarked n ∙ h n ∙ sym (undoer-push rows row 1 n None ∙ names_none (1 + length rows) n (undoer rows n))

  -- the undos and redos after a row was marked and a row that names it was added
  pub undoer-toggled : (rows : List (Row O)) (k : ℕ) (by : Option ℕ) (last : Row O) → ((n : ℕ) (was : Option ℕ) → undoer_then last.reply (1 + length rows) n was ≡ cond (suc k == n) by was)
      → (n : ℕ) → undoer (mark rows k by ++ last ∷ []) n ≡ cond (suc k == n) by (undoer rows n)
  undoer-toggled rows k by last names n =
      undoer-push (mark rows k by) last 1 n None
      ∙ ap (λ (i : ℕ). undoer_then last.reply (1 + i) n (undoer (mark rows k by) n)) (length-mark rows k by)
      ∙ ap (λ (was : Option ℕ). undoer_then last.reply (1 + length rows) n was) (undoer-mark rows k by 1 n None)
      ∙ names n (undoer rows n)

  -- a row is marked as the new row requires
  marks-toggled : (rows : List (Row O)) (k : ℕ) (by : Option ℕ) (row last : Row O) → slice_get rows k ≡ Some row → last.undone_by ≡ None
      → ((n : ℕ) (was : Option ℕ) → undoer_then last.reply (1 + length rows) n was ≡ cond (suc k == n) by was) → MarksAgree rows → MarksAgree (mark rows k by ++ last ∷ [])
  marks-toggled rows k by row last is unmarked names h = λ n.
      pushed (mark rows k by) last unmarked n ∙ marked rows k by row is n ∙ ap (λ (was : Option ℕ). cond (suc k == n) by was) (h n)
      ∙ sym (undoer-toggled rows k by last names n)

  -- the effect of the row of an undo, and of a redo
  pub names_undone : (rows : List (Row O)) (operator : List ℕ) (k n : ℕ) (was : Option ℕ)
      → undoer_then (row_of_undo {O = O} operator (suc k) (Undid (suc k))).reply (1 + length rows) n was ≡ cond (suc k == n) (Some (length rows + 1)) was
  names_undone rows operator k n was = let number : 1 + length rows ≡ length rows + 1 = omega arith in ap (λ (i : ℕ). cond (suc k == n) (Some i) was) number

  pub names_redone : (rows : List (Row O)) (operator : List ℕ) (k n : ℕ) (was : Option ℕ)
      → undoer_then (row_of_redo {O = O} operator (suc k) (Redid (suc k))).reply (1 + length rows) n was ≡ cond (suc k == n) None was
  names_redone rows operator k n was = refl

  module _ (asks : O → Bool) (meaning : O → Inquiry Effect) where
    marks-rows_undone : (operator : List ℕ) (rows : List (Row O)) (n : ℕ) (u : Option UndoRefusal) → undo_refusal asks rows n ≡ u → MarksAgree rows → MarksAgree (rows_undone operator rows n u)
    marks-rows_undone operator rows n (Some u) is h = marks-push rows (row_of_undo operator n (UndoRefused u)) refl (λ at n by. refl) h
    marks-rows_undone operator rows zero None is h = cc
    marks-rows_undone operator rows (suc k) None is h =
        let free = free_row asks rows k is in
        marks-toggled rows k (Some (length rows + 1)) free.0 (row_of_undo operator (suc k) (Undid (suc k))) free.1.here refl (names_undone rows operator k) h

    marks-rows_redone : (operator : List ℕ) (rows : List (Row O)) (n : ℕ) (u : Option RedoRefusal) → redo_refusal asks rows n ≡ u → MarksAgree rows → MarksAgree (rows_redone operator rows n u)
    marks-rows_redone operator rows n (Some u) is h = marks-push rows (row_of_redo operator n (RedoRefused u)) refl (λ at n by. refl) h
    marks-rows_redone operator rows zero None is h = cc
    marks-rows_redone operator rows (suc k) None is h =
        let free = free_redo asks rows k is in
        marks-toggled rows k None free.0 (row_of_redo operator (suc k) (Redid (suc k))) free.1.here refl (names_redone rows operator k) h

    pub marks-after : (first : Entries) (rows : List (Row O)) (call : Call O) → MarksAgree rows → MarksAgree (rows_after asks meaning first rows call)
    marks-after first rows (operator, Do c) h = marks-push rows (answered operator c (outcome_of meaning c (replay asks meaning first rows))) refl (λ at n by. refl) h
    marks-after first rows (operator, Undo n) h = marks-rows_undone operator rows n (undo_refusal asks rows n) refl h
    marks-after first rows (operator, Redo n) h = marks-rows_redone operator rows n (redo_refusal asks rows n) refl h

    marks-from : (first : Entries) (rows : List (Row O)) (calls : List (Call O)) → MarksAgree rows → MarksAgree (run asks meaning first rows calls)
    marks-from first rows [] h = h
    marks-from first rows (call ∷ calls) h = marks-from first (rows_after asks meaning first rows call) calls (marks-after first rows call h)

    pub marks-run : (first : Entries) (calls : List (Call O)) → MarksAgree (run asks meaning first [] calls)
    marks-run first calls = marks-from first [] calls (no_rows O)
