-- Undos and redos of a row alternate, and the marks of rows are those that result from them.
use Rattle.std.proofs.Common.{◌≡◌, ◌+◌, ℕ, zero, suc, Bool, true, List, [], ◌∷◌, ◌++◌, Option, Some, None, is_some, length, refl, sym, ap, subst, ◌∙◌}
use Rattle.link_tree.specs.Trees.{Entries}
use Rattle.footprint.specs.Inquiry.{Inquiry}
use Rattle.footprint.specs.Operations.{Effect, outcome_of}
use Rattle.history.specs.declared.row.UndoRefusal.{UndoRefusal}
use Rattle.history.specs.declared.row.RedoRefusal.{RedoRefusal}
use Rattle.history.specs.declared.row.Row.{Row}
use Rattle.history.specs.declared.row.Request.TheVariants.{Do, Undo, Redo}
use Rattle.history.specs.declared.row.RowReply.TheVariants.{Undid, UndoRefused, Redid, RedoRefused}
use Rattle.history.specs.Rows.{Call, calls_of, answered, row_of_undo, row_of_redo, mark, undoer_then, undoer_from, undoer, undone_by_at, MarksAgree, rows_undone, rows_redone, undo_refusal, redo_refusal, replay, rows_after, run}
use Rattle.history.specs.Toggles.{Alternates, AllAlternate}
use Rattle.history.proofs.Replayed.{free_row}
use Rattle.history.proofs.Restored.{free_redo}
use Rattle.history.proofs.Marks.{undoer-mark, marks-after, marks-run, no_rows}

module _ {O : Type 0} where
  -- one more row
  alternates-push : (n : ℕ) (rows : List (Row O)) (last : Row O) (at : ℕ) (by : Option ℕ) → Alternates n rows at by
      → (last.reply ≡ Undid n → undoer_from rows at n by ≡ None) → (last.reply ≡ Redid n → is_some (undoer_from rows at n by) ≡ true) → Alternates n (rows ++ last ∷ []) at by
  alternates-push n [] last at by h undo redo = (undo, redo, tt)
  alternates-push n (row ∷ rows) last at by h undo redo = (h.0, h.1, alternates-push n rows last (at + 1) (undoer_then row.reply at n by) h.2 undo redo)

  -- marks don't matter
  alternates-mark : (n : ℕ) (rows : List (Row O)) (k : ℕ) (mark_by : Option ℕ) (at : ℕ) (by : Option ℕ) → Alternates n rows at by → Alternates n (mark rows k mark_by) at by
  alternates-mark n [] k mark_by at by h = h
  alternates-mark n (row ∷ rows) zero mark_by at by h = h
  alternates-mark n (row ∷ rows) (suc k) mark_by at by h = (h.0, h.1, alternates-mark n rows k mark_by (at + 1) (undoer_then row.reply at n by) h.2)

  -- a row that undoes and redoes nothing
  alternates-other : (rows : List (Row O)) (last : Row O) → ((n : ℕ) → last.reply ≡ Undid n → ⊥) → ((n : ℕ) → last.reply ≡ Redid n → ⊥) → AllAlternate rows → AllAlternate (rows ++ last ∷ [])
  alternates-other rows last undoes redoes h = λ n. alternates-push n rows last 1 None (h n) (λ is. absurd (undoes n is)) (λ is. absurd (redoes n is))

  module _ (asks : O → Bool) (meaning : O → Inquiry Effect) where
    alternates-undo : (operator : List ℕ) (rows : List (Row O)) (n : ℕ) (u : Option UndoRefusal) → undo_refusal asks rows n ≡ u → MarksAgree rows → AllAlternate rows → AllAlternate (rows_undone operator rows n u)
    alternates-undo operator rows n (Some u) is marked h = alternates-other rows (row_of_undo operator n (UndoRefused u)) (λ m e. cc) (λ m e. cc) h
    alternates-undo operator rows zero None is marked h = cc
    alternates-undo operator rows (suc k) None is marked h =
        let free = free_row asks rows k is in
        let by = Some (length rows + 1) in
        let none : undoer rows (suc k) ≡ None = sym (marked (suc k)) ∙ ap (λ (o : Option (Row O)). undone_by_at o) free.1.here ∙ free.1.unmarked in
        λ n. alternates-push n (mark rows k by) (row_of_undo operator (suc k) (Undid (suc k))) 1 None (alternates-mark n rows k by 1 None (h n))
        (λ same. let number : suc k ≡ n = cc in undoer-mark rows k by 1 n None ∙ ap (undoer rows) (sym number) ∙ none)
        (λ e. cc)

    alternates-redo : (operator : List ℕ) (rows : List (Row O)) (n : ℕ) (u : Option RedoRefusal) → redo_refusal asks rows n ≡ u → MarksAgree rows → AllAlternate rows → AllAlternate (rows_redone operator rows n u)
    alternates-redo operator rows n (Some u) is marked h = alternates-other rows (row_of_redo operator n (RedoRefused u)) (λ m e. cc) (λ m e. cc) h
    alternates-redo operator rows zero None is marked h = cc
    alternates-redo operator rows (suc k) None is marked h =
        let free = free_redo asks rows k is in
        let some : undoer rows (suc k) ≡ Some free.1.by = sym (marked (suc k)) ∙ ap (λ (o : Option (Row O)). undone_by_at o) free.1.here ∙ free.1.undone in
        λ n. alternates-push n (mark rows k None) (row_of_redo operator (suc k) (Redid (suc k))) 1 None (alternates-mark n rows k None 1 None (h n))
        (λ e. cc)
        (λ same. let number : suc k ≡ n = cc in ap (λ (o : Option ℕ). is_some o) (undoer-mark rows k None 1 n None ∙ ap (undoer rows) (sym number) ∙ some))

    alternates-after : (first : Entries) (rows : List (Row O)) (call : Call O) → MarksAgree rows → AllAlternate rows → AllAlternate (rows_after asks meaning first rows call)
    alternates-after first rows (operator, Do c) marked h = alternates-other rows (answered operator c (outcome_of meaning c (replay asks meaning first rows))) (λ m e. cc) (λ m e. cc) h
    alternates-after first rows (operator, Undo n) marked h = alternates-undo operator rows n (undo_refusal asks rows n) refl marked h
    alternates-after first rows (operator, Redo n) marked h = alternates-redo operator rows n (redo_refusal asks rows n) refl marked h

    alternates-from : (first : Entries) (rows : List (Row O)) (calls : List (Call O)) → MarksAgree rows → AllAlternate rows → AllAlternate (run asks meaning first rows calls)
    alternates-from first rows [] marked h = h
    alternates-from first rows (call ∷ calls) marked h =
        alternates-from first (rows_after asks meaning first rows call) calls (marks-after asks meaning first rows call marked) (alternates-after first rows call marked h)

    pub alternates-run : (first : Entries) (calls : List (Call O)) → AllAlternate (run asks meaning first [] calls)
    alternates-run first calls = alternates-from first [] calls (no_rows O) (λ n. tt)

    -- what holds for legal rows
    pub legal_marks : (first : Entries) (rows : List (Row O)) → rows ≡ run asks meaning first [] (calls_of rows) → MarksAgree rows
    legal_marks first rows legal = subst (λ (rs : List (Row O)). MarksAgree rs) (sym legal) (marks-run asks meaning first (calls_of rows))

    pub legal_alternates : (first : Entries) (rows : List (Row O)) → rows ≡ run asks meaning first [] (calls_of rows) → AllAlternate rows
    legal_alternates first rows legal = subst (λ (rs : List (Row O)). AllAlternate rs) (sym legal) (alternates-run first (calls_of rows))
