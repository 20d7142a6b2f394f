-- The rows of a history on another first tree.
use Rattle.std.proofs.Common.{◌≡◌, ◌+◌, ℕ, zero, suc, Bool, List, [], ◌∷◌, ◌++◌, length, Option, Some, None, refl, sym, ap, ◌∙◌, subst}
use Rattle.link_tree.specs.declared.change.Change.{Change}
use Rattle.link_tree.specs.Trees.{Entries, AreFrom, after_changes}
use Rattle.footprint.specs.declared.outcome.Outcome.{Outcome}
use Rattle.tree_access.specs.declared.reading.Observation.{Observation}
use Rattle.footprint.specs.Inquiry.{Inquiry}
use Rattle.tree_access.specs.Keys.{Untouched}
use Rattle.footprint.specs.Operations.{Effect, OperationLaws, outcome_of}
use Rattle.tree_access.specs.Readings.{keys_of, reading_of}
use Rattle.tree_access.proofs.ReadingKeys.{untouched_keys}
use Rattle.footprint.proofs.Outcomes.{untouched_step}
use Rattle.history.specs.declared.row.Row.{Row}
use Rattle.history.specs.declared.row.UndoRefusal.{UndoRefusal}
use Rattle.history.specs.declared.row.RedoRefusal.{RedoRefusal}
use Rattle.history.specs.declared.row.Request.TheVariants.{Do, Undo, Redo}
use Rattle.history.specs.declared.row.RowReply.TheVariants.{Undid, UndoRefused, Redid, RedoRefused}
use Rattle.history.specs.Rows.{Call, answered, row_of_undo, row_of_redo, mark, rows_undone, rows_redone, undo_refusal, redo_refusal, survivor, after, replay, AnswersHere, AnswersAlike, rows_after, run}
use Rattle.history.proofs.Moments.{Remembers, alike_now, remembers, remembers-after}
use Rattle.later_rows.specs.Laws.{NoneLooked, RowsHoldOnAnotherTree}

module _ {O : Type 0} (cs : List Change) where
  looked-front : (rows more : List (Row O)) → NoneLooked cs (rows ++ more) → NoneLooked cs rows
  looked-front [] more h = tt
  looked-front (row ∷ rows) more h = (h.0, looked-front rows more h.1)

  looked-last : (rows : List (Row O)) (row : Row O) → NoneLooked cs (rows ++ row ∷ []) → Untouched cs (keys_of row.reading)
  looked-last [] row h = h.0
  looked-last (r ∷ rows) row h = looked-last rows row h.1

  looked-mark : (rows : List (Row O)) (k : ℕ) (by : Option ℕ) → NoneLooked cs (mark rows k by) → NoneLooked cs rows
  looked-mark [] k by h = tt
  looked-mark (row ∷ rows) zero by h = (h.0, h.1)
  looked-mark (row ∷ rows) (suc k) by h = (h.0, looked-mark rows k by h.1)

  looked-undone : (operator : List ℕ) (rows : List (Row O)) (n : ℕ) (u : Option UndoRefusal) → NoneLooked cs (rows_undone operator rows n u) → NoneLooked cs rows
  looked-undone operator rows zero None h = looked-front rows (row_of_undo operator zero (Undid zero) ∷ []) h
  looked-undone operator rows (suc k) None h = looked-mark rows k (Some (length rows + 1)) (looked-front (mark rows k (Some (length rows + 1))) (row_of_undo operator (suc k) (Undid (suc k)) ∷ []) h)
  looked-undone operator rows n (Some u) h = looked-front rows (row_of_undo operator n (UndoRefused u) ∷ []) h

  looked-redone : (operator : List ℕ) (rows : List (Row O)) (n : ℕ) (u : Option RedoRefusal) → NoneLooked cs (rows_redone operator rows n u) → NoneLooked cs rows
  looked-redone operator rows zero None h = looked-front rows (row_of_redo operator zero (Redid zero) ∷ []) h
  looked-redone operator rows (suc k) None h = looked-mark rows k None (looked-front (mark rows k None) (row_of_redo operator (suc k) (Redid (suc k)) ∷ []) h)
  looked-redone operator rows n (Some u) h = looked-front rows (row_of_redo operator n (RedoRefused u) ∷ []) h

module _ {O : Type 0} {asks : O → Bool} {meaning : O → Inquiry Effect} (laws : OperationLaws asks meaning) (cs : List Change) where
  looked-after : (first : Entries) (rows : List (Row O)) (call : Call O) → NoneLooked cs (rows_after asks meaning first rows call) → NoneLooked cs rows
  looked-after first rows (operator, Do c) h = looked-front cs rows (answered operator c (outcome_of meaning c (replay asks meaning first rows)) ∷ []) h
  looked-after first rows (operator, Undo n) h = looked-undone cs operator rows n (undo_refusal asks rows n) h
  looked-after first rows (operator, Redo n) h = looked-redone cs operator rows n (redo_refusal asks rows n) h

  looked-run : (first : Entries) (rows : List (Row O)) (calls : List (Call O)) → NoneLooked cs (run asks meaning first rows calls) → NoneLooked cs rows
  looked-run first rows [] h = h
  looked-run first rows (call ∷ calls) h = looked-after first rows call (looked-run first (rows_after asks meaning first rows call) calls h)

  -- one row on the other tree
  row_moved : (o : Option O) (t : Entries) (row : Row O) → AnswersHere asks meaning o t row → AreFrom t cs → Untouched cs (keys_of row.reading)
      → (after asks meaning o (after_changes cs t) ≡ after_changes cs (after asks meaning o t)) × AreFrom (after asks meaning o t) cs
  row_moved None t row h from apart = (refl, from)
  row_moved (Some c) t row h from apart =
      let keys = (meaning c).keys t in
      let seen : Untouched cs (keys_of (reading_of keys t)) = subst (λ (r : List Observation). Untouched cs (keys_of r)) h.2 apart in
      let one = untouched_step laws cs c t from (untouched_keys cs keys t seen) in
      (ap (λ (o : Outcome). after_changes o.changes (after_changes cs t)) (sym one.0) ∙ one.1, one.2)

  rows_moved : (rows : List (Row O)) (t : Entries) → AnswersAlike asks meaning t rows → AreFrom t cs → NoneLooked cs rows
      → (replay asks meaning (after_changes cs t) rows ≡ after_changes cs (replay asks meaning t rows)) × AreFrom (replay asks meaning t rows) cs
  rows_moved [] t h from apart = (refl, from)
  rows_moved (row ∷ rows) t h from apart =
      let one = row_moved (survivor asks row) t row h.0 from apart.0 in
      let rest = rows_moved rows (after asks meaning (survivor asks row) t) h.1 one.1 apart.1 in
      (ap (λ (u : Entries). replay asks meaning u rows) one.0 ∙ rest.0, rest.1)

  -- one call on the other tree
  call_moved : (first : Entries) (rows : List (Row O)) (call : Call O) → AnswersAlike asks meaning first rows → AreFrom first cs → NoneLooked cs (rows_after asks meaning first rows call)
      → rows_after asks meaning (after_changes cs first) rows call ≡ rows_after asks meaning first rows call
  call_moved first rows (operator, Undo n) h from apart = refl
  call_moved first rows (operator, Redo n) h from apart = refl
  call_moved first rows (operator, Do c) h from apart =
      let t : Entries = replay asks meaning first rows in
      let all = rows_moved rows first h from (looked-after first rows (operator, Do c) apart) in
      let seen : Untouched cs (keys_of (reading_of ((meaning c).keys t) t)) = looked-last cs rows (answered operator c (outcome_of meaning c t)) apart in
      let one = untouched_step laws cs c t all.1 (untouched_keys cs ((meaning c).keys t) t seen) in
      ap (λ u. rows ++ answered operator c (outcome_of meaning c u) ∷ []) all.0 ∙ ap (λ (o : Outcome). rows ++ answered operator c o ∷ []) (sym one.0)

  run_moved : (first : Entries) (calls : List (Call O)) (rows : List (Row O)) → Remembers asks meaning first rows → AreFrom first cs → NoneLooked cs (run asks meaning first rows calls)
      → run asks meaning (after_changes cs first) rows calls ≡ run asks meaning first rows calls
  run_moved first [] rows h from apart = refl
  run_moved first (call ∷ calls) rows h from apart =
      let next : List (Row O) = rows_after asks meaning first rows call in
      ap (λ r. run asks meaning (after_changes cs first) r calls) (call_moved first rows call (alike_now asks meaning first rows h) from (looked-run first next calls apart))
      ∙ run_moved first calls next (remembers-after laws first rows call h) from apart

pub rows_hold_on_another_tree : {O : Type 0} {asks : O → Bool} {meaning : O → Inquiry Effect} (laws : OperationLaws asks meaning) → RowsHoldOnAnotherTree asks meaning
rows_hold_on_another_tree {O} {asks} {meaning} laws first calls changes from apart = (
  run_moved laws changes first calls [] (remembers laws first []) from apart,
  (rows_moved laws changes (run asks meaning first [] calls) first (alike_now asks meaning first (run asks meaning first [] calls) (remembers laws first calls)) from apart).0,
)
