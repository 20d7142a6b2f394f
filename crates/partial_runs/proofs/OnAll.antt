-- The rows of calls on a part are those on all that is held, if the part has all that they looked at.
use Rattle.std.proofs.Common.{◌≡◌, ◌+◌, ◌≤◌, ℕ, zero, suc, Bool, List, [], ◌∷◌, ◌++◌, Option, Some, None, Ok, length, length-append, refl, sym, ap, subst, ◌∙◌}
use Rattle.std.specs.Prelude.{IfSome}
use Rattle.std.specs.FinMap as map
use Rattle.link_tree.specs.Differences.{changes_between}
use Rattle.link_tree.specs.Shape.{IsTree}
use Rattle.link_tree.specs.Trees.{Entries, after_changes}
use Rattle.footprint.specs.Inquiry.{Inquiry}
use Rattle.footprint.specs.Operations.{Effect, outcome_of, OperationLaws}
use Rattle.history.specs.declared.row.RedoRefusal.{RedoRefusal}
use Rattle.history.specs.declared.row.Request.TheVariants.{Do, Undo, Redo}
use Rattle.history.specs.declared.row.Row.{Row}
use Rattle.history.specs.declared.row.RowReply.TheVariants.{Undid, UndoRefused, Redid, RedoRefused}
use Rattle.history.specs.declared.row.UndoRefusal.{UndoRefusal}
use Rattle.history.specs.Rows.{Call, answered, row_of_undo, row_of_redo, undone, redone, rows_undone, rows_redone, undo_refusal, redo_refusal, replay, rows_after, run}
use Rattle.history.proofs.Replayed.{run-push, length-mark}
use Rattle.disk.specs.Disks.{Held}
use Rattle.disk.specs.Partials.{IsPartial, found_in}
use Rattle.disk.specs.declared.partial.Partial.{Partial}
use Rattle.partial_trees.specs.Parts.{AgreeOnRows}
use Rattle.partial_trees.proofs.SameRows.{rows_are_the_same, changes_are_the_same}
use Rattle.partial_runs.specs.Captures.{Captures}
use Rattle.partial_runs.specs.Runs.{IsRunOnAll, IsWithin}
use Rattle.partial_runs.proofs.Captured.{is_held}
use Rattle.partial_runs.proofs.Within.{same_within}

module _ {O : Type 0} (asks : O → Bool) (meaning : O → Inquiry Effect) where
  length-undone : (rows : List (Row O)) (n by : ℕ) → length (undone rows n by) ≡ length rows
  length-undone rows zero by = refl
  length-undone rows (suc k) by = length-mark rows k (Some by)

  length-redone : (rows : List (Row O)) (n : ℕ) → length (redone rows n) ≡ length rows
  length-redone rows zero = refl
  length-redone rows (suc k) = length-mark rows k None

  length-rows_undone : (operator : List ℕ) (rows : List (Row O)) (n : ℕ) (refusal : Option UndoRefusal) → length (rows_undone operator rows n refusal) ≡ length rows + 1
  length-rows_undone operator rows n None =
      length-append (undone rows n (length rows + 1)) (row_of_undo operator n (Undid n) ∷ []) ∙ ap (λ k. k + 1) (length-undone rows n (length rows + 1))
  length-rows_undone operator rows n (Some refusal) = length-append rows (row_of_undo operator n (UndoRefused refusal) ∷ [])

  length-rows_redone : (operator : List ℕ) (rows : List (Row O)) (n : ℕ) (refusal : Option RedoRefusal) → length (rows_redone operator rows n refusal) ≡ length rows + 1
  length-rows_redone operator rows n None = length-append (redone rows n) (row_of_redo operator n (Redid n) ∷ []) ∙ ap (λ k. k + 1) (length-redone rows n)
  length-rows_redone operator rows n (Some refusal) = length-append rows (row_of_redo operator n (RedoRefused refusal) ∷ [])

  -- each call makes a row
  pub length-rows_after : (first : Entries) (rows : List (Row O)) (call : Call O) → length (rows_after asks meaning first rows call) ≡ length rows + 1
  length-rows_after first rows (operator, Do c) = length-append rows (answered operator c (outcome_of meaning c (replay asks meaning first rows)) ∷ [])
  length-rows_after first rows (operator, Undo n) = length-rows_undone operator rows n (undo_refusal asks rows n)
  length-rows_after first rows (operator, Redo n) = length-rows_redone operator rows n (redo_refusal asks rows n)

  -- the rows after one call more
  pub one_row : (first : Entries) (calls more : List (Call O)) (call : Call O) (rows rows_then : List (Row O)) → more ≡ calls ++ call ∷ [] → rows ≡ run asks meaning first [] calls → rows_then ≡ rows_after asks meaning first rows call
      → rows_then ≡ run asks meaning first [] more
  one_row first calls more call rows rows_then longer is made =
      made ∙ ap (λ (rs : List (Row O)). rows_after asks meaning first rs call) is ∙ sym (run-push asks meaning first [] calls call) ∙ ap (run asks meaning first []) (sym longer)

module _ {O : Type 0} {asks : O → Bool} {meaning : O → Inquiry Effect} (laws : OperationLaws asks meaning) where
  module _ (t : Held) (part : Entries) (calls : List (Call O)) (rows : List (Row O)) (within : IsWithin part t.entries) (agree : AgreeOnRows rows part t.entries) (rows_are : rows ≡ run asks meaning part [] calls) where
    agree_there : AgreeOnRows (run asks meaning part [] calls) part t.entries
    agree_there = subst (λ (rs : List (Row O)). AgreeOnRows rs part t.entries) rows_are agree

    -- a part with all that the rows looked at
    is_run_on_all : IsRunOnAll asks meaning t calls part rows
    is_run_on_all = record {
      is_part = within;
      agrees = agree;
      same_rows = rows_are ∙ sym (rows_are_the_same laws part t.entries calls agree_there);
      same_changes =
          subst (λ (rs : List (Row O)). changes_between part (replay asks meaning part rs) ≡ changes_between t.entries (replay asks meaning t.entries rs)) (sym rows_are)
          (sym (changes_are_the_same laws part t.entries calls agree_there).0);
      leads =
          subst (λ (rs : List (Row O)). after_changes (changes_between part (replay asks meaning part rs)) t.entries ≡ replay asks meaning t.entries rs) (sym rows_are)
          (changes_are_the_same laws part t.entries calls agree_there).1;
    }

  -- Rows on the part as it was before their readings were captured: if no more was found, it has all
  -- that they looked at.
  pub ends_on_all : (tree : Option Held) (old new : Partial) (first shared : Entries) (calls : List (Call O)) (rows : List (Row O))
      → Captures tree old new (Ok tt) (λ t found. AgreeOnRows rows found t.entries) → map.len (found_in new) ≤ map.len (found_in old)
      → ((t : Held) → IsPartial t old → IsTree t.entries → first ≡ found_in old) → shared ≡ first → rows ≡ run asks meaning first [] calls
      → IfSome tree (λ t. IsPartial t old → IsTree t.entries → IsRunOnAll asks meaning t calls shared rows)
  ends_on_all None old new first shared calls rows captures few first_is shared_is rows_are = tt
  ends_on_all (Some t) old new first shared calls rows captures few first_is shared_is rows_are = λ is shape.
      let more = captures is in
      let same : found_in old ≡ found_in new = same_within (found_in old) (found_in new) more.1 few in
      let old_is : shared ≡ found_in old = shared_is ∙ first_is t is shape in
      is_run_on_all t shared calls rows
      (subst (λ part. IsWithin part t.entries) (sym old_is) (is_held t old is))
      (subst (λ part. AgreeOnRows rows part t.entries) (sym (old_is ∙ same)) more.2)
      (rows_are ∙ ap (λ (part : Entries). run asks meaning part [] calls) (sym shared_is))
