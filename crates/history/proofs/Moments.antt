-- The rows as they were at earlier moments, and that each of their survivors has the answer of its
-- row in the replay of that moment.
use Rattle.std.proofs.Common.{◌≡◌, ◌+◌, ◌-◌, ◌<◌, ◌≤◌, ◌==◌, ℕ, zero, suc, Bool, true, false, cond, List, [], ◌∷◌, ◌++◌, Option, Some, None, slice_get, take, length, length-append, refl, sym, ap, subst, ◌∙◌, arith, inl, inr}
use Rattle.std.proofs.Math.Seq.{take-length}
use Rattle.std.proofs.lemmas.Bool.{cases_lt}
use Rattle.std.proofs.lemmas.Bool.Decides.{Decides-eqb}
use Rattle.std.proofs.lemmas.List.{take-append-le}
use Rattle.std.proofs.lemmas.Option.{slice_get_within}
use Rattle.link_tree.specs.Trees.{Entries, AreFrom, after_changes}
use Rattle.footprint.specs.Inquiry.{Inquiry}
use Rattle.footprint.specs.Operations.{Effect, outcome_of, OperationLaws}
use Rattle.history.specs.declared.row.UndoRefusal.{UndoRefusal}
use Rattle.history.specs.declared.row.RedoRefusal.{RedoRefusal}
use Rattle.history.specs.declared.row.Row.{Row}
use Rattle.history.specs.declared.row.Request.TheVariants.{Do, Undo, Redo}
use Rattle.history.specs.declared.row.RowReply.TheVariants.{Undid, UndoRefused, Redid, RedoRefused}
use Rattle.history.specs.Rows.{Call, answered, row_of_undo, row_of_redo, mark, undoer_then, undoer, undoer_before, undone_by_at, MarksAgree, rows_undone, rows_redone, undo_refusal, redo_refusal, replay, AnswersHere, AnswersAlike, rows_after, run}
use Rattle.history.proofs.Replayed.{length-mark, free_row, alike-push, new_row, removed}
use Rattle.history.proofs.Restored.{remark, free_redo, answers_again, restored, IsRedoable}
use Rattle.history.proofs.Marks.{undoer-push, undoer-mark, undoer-toggled, names_undone, names_redone, marks-after, no_rows}

module _ {O : Type 0} where
  -- the rows as they were when there were v of them
  abbrev pub rows_then : List (Row O) → ℕ → List (Row O)
  rows_then rows v = remark (undoer (take v rows)) (take v rows) 1

  remark-mark : (marks : ℕ → Option ℕ) (rows : List (Row O)) (k : ℕ) (by : Option ℕ) (at : ℕ) → remark marks (mark rows k by) at ≡ remark marks rows at
  remark-mark marks [] k by at = refl
  remark-mark marks (r ∷ rows) zero by at = refl
  remark-mark marks (r ∷ rows) (suc k) by at = ap (λ (rs : List (Row O)). record r { undone_by = marks at } ∷ rs) (remark-mark marks rows k by (at + 1))

  take-mark : (v : ℕ) (rows : List (Row O)) (k : ℕ) (by : Option ℕ) → take v (mark rows k by) ≡ mark (take v rows) k by
  take-mark zero rows k by = refl
  take-mark (suc v) [] k by = refl
  take-mark (suc v) (r ∷ rows) zero by = refl
  take-mark (suc v) (r ∷ rows) (suc k) by = ap (λ (rs : List (Row O)). r ∷ rs) (take-mark v rows k by)

  -- rows with the same undos are the same at each moment
  undoer_marked : (v : ℕ) (rows : List (Row O)) (k : ℕ) (by : Option ℕ) (n : ℕ) → undoer (take v (mark rows k by)) n ≡ undoer (take v rows) n
  undoer_marked v rows k by n = ap (λ (rs : List (Row O)). undoer rs n) (take-mark v rows k by) ∙ undoer-mark (take v rows) k by 1 n None

  then-mark : (v : ℕ) (rows : List (Row O)) (k : ℕ) (by : Option ℕ) → rows_then (mark rows k by) v ≡ rows_then rows v
  then-mark v rows k by =
      (λ j. remark (λ n. undoer_marked v rows k by n j) (take v (mark rows k by)) 1)
      ∙ ap (λ (rs : List (Row O)). remark (undoer (take v rows)) rs 1) (take-mark v rows k by)
      ∙ remark-mark (undoer (take v rows)) (take v rows) k by 1

  then-push : (v : ℕ) (rows more : List (Row O)) → v ≤ length rows → rows_then (rows ++ more) v ≡ rows_then rows v
  then-push v rows more le = ap (λ (rs : List (Row O)). remark (undoer rs) rs 1) (take-append-le v rows more le)

  remark-same : (marks : ℕ → Option ℕ) (rows : List (Row O)) (at : ℕ) → ((k : ℕ) (row : Row O) → slice_get rows k ≡ Some row → marks (at + k) ≡ row.undone_by) → remark marks rows at ≡ rows
  remark-same marks [] at same = refl
  remark-same marks (r ∷ rows) at same =
      let here : at + 0 ≡ at = omega arith in
      let mark_is : marks at ≡ r.undone_by = ap marks (sym here) ∙ same 0 r refl in
      ap (λ (by : Option ℕ). record r { undone_by = by } ∷ remark marks rows (at + 1)) mark_is
      ∙ ap (λ (rs : List (Row O)). r ∷ rs) (remark-same marks rows (at + 1)
      (λ k row is. let number : at + 1 + k ≡ at + suc k = omega arith in ap marks number ∙ same (suc k) row is))

  -- the rows as they are
  then-now : (rows : List (Row O)) → MarksAgree rows → rows_then rows (length rows) ≡ rows
  then-now rows marked =
      ap (λ (rs : List (Row O)). remark (undoer rs) rs 1) (take-length rows)
      ∙ remark-same (undoer rows) rows 1 (λ k row is. let number : 1 + k ≡ suc k = omega arith in ap (undoer rows) number ∙ sym (marked (suc k)) ∙ ap (λ (o : Option (Row O)). undone_by_at o) is)

module _ {O : Type 0} (asks : O → Bool) (meaning : O → Inquiry Effect) where
  -- The rows are marked by their undos and redos, at each moment the survivors had the answers of
  -- their rows, and what is undone survived when it was undone.
  pub record Remembers (first : Entries) (rows : List (Row O)) : Type 0 where
    pub marked : MarksAgree rows
    pub alike_at : (v : ℕ) → v ≤ length rows → AnswersAlike asks meaning first (rows_then rows v)
    pub survived : (n u : ℕ) → undoer rows n ≡ Some u → (n < u) × (u ≤ length rows) × (undoer_before rows u n ≡ None)

  pub alike_now : (first : Entries) (rows : List (Row O)) → Remembers first rows → AnswersAlike asks meaning first rows
  alike_now first rows h = subst (AnswersAlike asks meaning first) (then-now rows h.marked) (h.alike_at (length rows) (omega arith))

  -- the rows before the last have their answers, and so do all of them now
  alike_so_far : (first : Entries) (rows new : List (Row O)) → length new ≡ length rows + 1 → ((v : ℕ) → v ≤ length rows → rows_then new v ≡ rows_then rows v) → MarksAgree new
      → AnswersAlike asks meaning first new → Remembers first rows → (v : ℕ) → v ≤ length new → AnswersAlike asks meaning first (rows_then new v)
  alike_so_far first rows new count before marked alike h v le = elim (cases_lt (length rows) v) [
    | inl last ↦
        let number : length new ≡ v = omega (arith, last, le, count) in
        subst (λ (i : ℕ). AnswersAlike asks meaning first (rows_then new i)) number (subst (AnswersAlike asks meaning first) (sym (then-now new marked)) alike)
    | inr old ↦ subst (AnswersAlike asks meaning first) (sym (before v old)) (h.alike_at v old)
  ]

  -- a row is added that names none
  remembers-push : (first : Entries) (rows : List (Row O)) (row : Row O) → ((at n : ℕ) (by : Option ℕ) → undoer_then row.reply at n by ≡ by) → MarksAgree (rows ++ row ∷ [])
      → AnswersAlike asks meaning first (rows ++ row ∷ []) → Remembers first rows → Remembers first (rows ++ row ∷ [])
  remembers-push first rows row names_none marked alike h = record {
    marked = marked;
    alike_at = alike_so_far first rows (rows ++ row ∷ []) (length-append rows (row ∷ [])) (λ v le. then-push v rows (row ∷ []) le) marked alike h;
    survived = λ n u is.
        let old = h.survived n u (sym (undoer-push rows row 1 n None ∙ names_none (1 + length rows) n (undoer rows n)) ∙ is) in
        (old.0, omega (arith, old.1, length-append rows (row ∷ [])), ap (λ (rs : List (Row O)). undoer rs n) (take-append-le (u - 1) rows (row ∷ []) (omega (arith, old.1))) ∙ old.2);
  }

  -- a row is marked, and one is added that names it
  module _ (first : Entries) (rows : List (Row O)) (k : ℕ) (by : Option ℕ) (row last : Row O) (here : slice_get rows k ≡ Some row)
      (names : (n : ℕ) (was : Option ℕ) → undoer_then last.reply (1 + length rows) n was ≡ cond (suc k == n) by was)
      (just : (u : ℕ) → by ≡ Some u → (u ≡ length rows + 1) × (undoer rows (suc k) ≡ None)) where
    abbrev toggled_rows : List (Row O)
    toggled_rows = mark rows k by ++ last ∷ []

    within_mark : (v : ℕ) → v ≤ length rows → v ≤ length (mark rows k by)
    within_mark v le = omega (arith, le, length-mark rows k by)

    before_toggle : (v n : ℕ) → v ≤ length rows → undoer (take v toggled_rows) n ≡ undoer (take v rows) n
    before_toggle v n le = ap (λ (rs : List (Row O)). undoer rs n) (take-append-le v (mark rows k by) (last ∷ []) (within_mark v le)) ∙ undoer_marked v rows k by n

    count : length toggled_rows ≡ length rows + 1
    count = omega (arith, length-append (mark rows k by) (last ∷ []), length-mark rows k by)

    survived_toggle : (n u : ℕ) → (same : Bool) → (suc k == n) ≡ same → ((m w : ℕ) → undoer rows m ≡ Some w → (m < w) × (w ≤ length rows) × (undoer_before rows w m ≡ None))
        → cond same by (undoer rows n) ≡ Some u → (n < u) × (u ≤ length toggled_rows) × (undoer_before toggled_rows u n ≡ None)
    survived_toggle n u true same h is =
        let new = just u is in
        let number : suc k ≡ n = (Decides-eqb (suc k) n).0 same in
        let size : u - 1 ≡ length rows = omega (arith, new.0) in (
          omega (arith, new.0, number, slice_get_within rows k row here),
          omega (arith, new.0, count),
          ap (λ (v : ℕ). undoer (take v toggled_rows) n) size ∙ before_toggle (length rows) n (omega arith) ∙ ap (λ (rs : List (Row O)). undoer rs n) (take-length rows)
              ∙ ap (undoer rows) (sym number) ∙ new.1,
        )
    survived_toggle n u false other h is =
        let old = h n u is in
        (old.0, omega (arith, old.1, count), before_toggle (u - 1) n (omega (arith, old.1)) ∙ old.2)

    remembers-toggled : MarksAgree toggled_rows → AnswersAlike asks meaning first toggled_rows → Remembers first rows → Remembers first toggled_rows
    remembers-toggled marked alike h = record {
      marked = marked;
      alike_at = alike_so_far first rows toggled_rows count (λ v le. then-push v (mark rows k by) (last ∷ []) (within_mark v le) ∙ then-mark v rows k by) marked alike h;
      survived = λ n u is. survived_toggle n u (suc k == n) refl h.survived (sym (undoer-toggled rows k by last names n) ∙ is);
    }

module _ {O : Type 0} {asks : O → Bool} {meaning : O → Inquiry Effect} (laws : OperationLaws asks meaning) where
  -- a command that may be redone has its answer at its place
  pub answers_there : (first : Entries) (rows : List (Row O)) (k : ℕ) (row : Row O) (free : IsRedoable asks rows k row) → Remembers asks meaning first rows
      → AnswersHere asks meaning (Some free.command) (replay asks meaning first (take k rows)) row
  answers_there first rows k row free h =
      let by = free.by in
      let number : 1 + k ≡ suc k = omega arith in
      let is_by : undoer rows (suc k) ≡ Some by = sym (h.marked (suc k)) ∙ ap (λ (o : Option (Row O)). undone_by_at o) free.here ∙ free.undone in
      let stood = h.survived (suc k) by is_by in
      answers_again laws (undoer_before rows by) rows first (by - 1) k row free.command (omega (arith, stood.0)) free.here free.is (ap (undoer_before rows by) number ∙ stood.2)
      (alike_now asks meaning first rows h) (h.alike_at (by - 1) (omega (arith, stood.1))) free.unflipped

  -- putting it back makes its changes in the tree, and all survivors have their answers
  pub put_back : (first : Entries) (rows : List (Row O)) (k : ℕ) (row : Row O) (free : IsRedoable asks rows k row) → Remembers asks meaning first rows
      → AnswersAlike asks meaning first (mark rows k None)
      × (replay asks meaning first (mark rows k None) ≡ after_changes row.changes (replay asks meaning first rows))
      × AreFrom (replay asks meaning first rows) row.changes
  put_back first rows k row free h =
      restored laws rows first k (suc k + 1) row free.command free.by (alike_now asks meaning first rows h) free.here free.is free.undone (answers_there first rows k row free h) free.unmet

  remembers-undo : (first : Entries) (operator : List ℕ) (rows : List (Row O)) (n : ℕ) (u : Option UndoRefusal) → undo_refusal asks rows n ≡ u → MarksAgree (rows_undone operator rows n u)
      → Remembers asks meaning first rows → Remembers asks meaning first (rows_undone operator rows n u)
  remembers-undo first operator rows n (Some u) is marked h =
      let last = row_of_undo {O = O} operator n (UndoRefused u) in
      remembers-push asks meaning first rows last (λ at m by. refl) marked (alike-push asks meaning first rows last (alike_now asks meaning first rows h) tt) h
  remembers-undo first operator rows zero None is marked h = cc
  remembers-undo first operator rows (suc k) None is marked h =
      let free = free_row asks rows k is in
      let by = length rows + 1 in
      let last = row_of_undo {O = O} operator (suc k) (Undid (suc k)) in
      let without = removed laws rows first k (suc k + 1) by free.0 (alike_now asks meaning first rows h) free.1.here free.1.stands free.1.unblocked in
      let unmarked : undoer rows (suc k) ≡ None = sym (h.marked (suc k)) ∙ ap (λ (o : Option (Row O)). undone_by_at o) free.1.here ∙ free.1.unmarked in
      remembers-toggled asks meaning first rows k (Some by) free.0 last free.1.here (names_undone rows operator k) (λ u is. let same : u ≡ by = cc in (same, unmarked)) marked
      (alike-push asks meaning first (mark rows k (Some by)) last without.0 tt) h

  remembers-redo : (first : Entries) (operator : List ℕ) (rows : List (Row O)) (n : ℕ) (u : Option RedoRefusal) → redo_refusal asks rows n ≡ u → MarksAgree (rows_redone operator rows n u)
      → Remembers asks meaning first rows → Remembers asks meaning first (rows_redone operator rows n u)
  remembers-redo first operator rows n (Some u) is marked h =
      let last = row_of_redo {O = O} operator n (RedoRefused u) in
      remembers-push asks meaning first rows last (λ at m by. refl) marked (alike-push asks meaning first rows last (alike_now asks meaning first rows h) tt) h
  remembers-redo first operator rows zero None is marked h = cc
  remembers-redo first operator rows (suc k) None is marked h =
      let free = free_redo asks rows k is in
      let last = row_of_redo {O = O} operator (suc k) (Redid (suc k)) in
      remembers-toggled asks meaning first rows k None free.0 last free.1.here (names_redone rows operator k) (λ u is. cc) marked
      (alike-push asks meaning first (mark rows k None) last (put_back first rows k free.0 free.1 h).0 tt) h

  -- each call is remembered
  remembers-call : (first : Entries) (rows : List (Row O)) (call : Call O) → MarksAgree (rows_after asks meaning first rows call) → Remembers asks meaning first rows
      → Remembers asks meaning first (rows_after asks meaning first rows call)
  remembers-call first rows (operator, Do c) marked h =
      let t = replay asks meaning first rows in
      let last = answered operator c (outcome_of meaning c t) in
      remembers-push asks meaning first rows last (λ at m by. refl) marked (alike-push asks meaning first rows last (alike_now asks meaning first rows h) (new_row laws operator c t).1) h
  remembers-call first rows (operator, Undo n) marked h = remembers-undo first operator rows n (undo_refusal asks rows n) refl marked h
  remembers-call first rows (operator, Redo n) marked h = remembers-redo first operator rows n (redo_refusal asks rows n) refl marked h

  pub remembers-after : (first : Entries) (rows : List (Row O)) (call : Call O) → Remembers asks meaning first rows → Remembers asks meaning first (rows_after asks meaning first rows call)
  remembers-after first rows call h = remembers-call first rows call (marks-after asks meaning first rows call h.marked) h

  pub remembers-run : (first : Entries) (rows : List (Row O)) (calls : List (Call O)) → Remembers asks meaning first rows → Remembers asks meaning first (run asks meaning first rows calls)
  remembers-run first rows [] h = h
  remembers-run first rows (call ∷ calls) h = remembers-run first (rows_after asks meaning first rows call) calls (remembers-after first rows call h)

  remembers-none : (first : Entries) → Remembers {O = O} asks meaning first []
  remembers-none first = record {
    marked = no_rows O;
    alike_at = λ v le. nothing v;
    survived = λ n u is. cc;
  }
    where
      nothing : (v : ℕ) → AnswersAlike asks meaning first (rows_then {O = O} [] v)
      nothing zero = tt
      nothing (suc v) = tt

  -- so this holds for the rows after any calls
  pub remembers : (first : Entries) (calls : List (Call O)) → Remembers asks meaning first (run asks meaning first [] calls)
  remembers first calls = remembers-run first [] calls (remembers-none first)

  pub remembers-legal : (first : Entries) (rows : List (Row O)) (calls : List (Call O)) → rows ≡ run asks meaning first [] calls → Remembers asks meaning first rows
  remembers-legal first rows calls legal = subst (Remembers asks meaning first) (sym legal) (remembers first calls)
