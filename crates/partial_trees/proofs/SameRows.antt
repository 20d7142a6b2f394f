-- Calls have the same rows on trees that agree on all that these rows looked at.
use Rattle.std.proofs.Common.{◌≡◌, ◌+◌, ℕ, zero, suc, Bool, List, [], ◌∷◌, ◌++◌, Option, Some, None, All, length, refl, sym, ap, subst, ◌∙◌}
use Rattle.std.proofs.lemmas.List.Elements.{All-head, All-tail, All-nil, All-cons, All-weaker}
use Rattle.link_tree.specs.Trees.{Entries, after_changes}
use Rattle.link_tree.specs.Differences.{changes_between}
use Rattle.link_tree.proofs.Leads.{leads}
use Rattle.footprint.specs.declared.outcome.Outcome.{Outcome}
use Rattle.footprint.specs.Inquiry.{Inquiry}
use Rattle.tree_access.specs.Keys.{AgreeOn}
use Rattle.tree_access.proofs.KeyLaws.{agree_on_after}
use Rattle.footprint.specs.Operations.{Effect, outcome_of, OperationLaws}
use Rattle.tree_access.specs.Readings.{keys_of}
use Rattle.footprint.proofs.Outcomes.{comes_to_the_same}
use Rattle.history.specs.declared.row.UndoRefusal.{UndoRefusal}
use Rattle.history.specs.declared.row.RedoRefusal.{RedoRefusal}
use Rattle.history.specs.declared.row.Row.{Row}
use Rattle.history.specs.declared.row.Request.TheVariants.{Do, Undo, Redo}
use Rattle.history.specs.declared.row.RowReply.TheVariants.{Undid, UndoRefused, Redid, RedoRefused}
use Rattle.history.specs.Rows.{Call, answered, row_of_undo, row_of_redo, mark, undone, redone, rows_undone, rows_redone, undo_refusal, redo_refusal, replay, rows_after, run, AnswersAlike}
use Rattle.history.proofs.Moments.{Remembers, alike_now, remembers, remembers-after}
use Rattle.partial_trees.specs.Parts.{AgreeOnRows}
use Rattle.partial_trees.specs.Laws.{RowsAreTheSame, ChangesAreTheSame, AgreementLasts}
use Rattle.partial_trees.proofs.Made.{made, replay_made, cells_made, same_changes}

module _ {O : Type 0} (part whole : Entries) where
  abbrev AgreeOnRow : Row O → Type 0
  AgreeOnRow row = AgreeOn (keys_of row.reading) part whole

  -- trees that agree on rows agree on the first of them
  on_first : (rows later : List (Row O)) → All AgreeOnRow (rows ++ later) → All AgreeOnRow rows
  on_first [] later agree = All-nil AgreeOnRow
  on_first (row ∷ rows) later agree = All-cons AgreeOnRow row rows (All-head AgreeOnRow row (rows ++ later) agree) (on_first rows later (All-tail AgreeOnRow row (rows ++ later) agree))

  -- and on the last
  on_last : (rows : List (Row O)) (row : Row O) → All AgreeOnRow (rows ++ row ∷ []) → AgreeOnRow row
  on_last [] row agree = All-head AgreeOnRow row [] agree
  on_last (r ∷ rows) row agree = on_last rows row (All-tail AgreeOnRow r (rows ++ row ∷ []) agree)

  -- a mark changes nothing of what a row looked at
  before_mark_at : (rows : List (Row O)) (k : ℕ) (by : Option ℕ) → All AgreeOnRow (mark rows k by) → All AgreeOnRow rows
  before_mark_at [] k by agree = agree
  before_mark_at (row ∷ rows) zero by agree =
      All-cons AgreeOnRow row rows (All-head AgreeOnRow (record row { undone_by = by }) rows agree) (All-tail AgreeOnRow (record row { undone_by = by }) rows agree)
  before_mark_at (row ∷ rows) (suc k) by agree =
      All-cons AgreeOnRow row rows (All-head AgreeOnRow row (mark rows k by) agree) (before_mark_at rows k by (All-tail AgreeOnRow row (mark rows k by) agree))

  before_mark : (rows : List (Row O)) (n by : ℕ) → All AgreeOnRow (undone rows n by) → All AgreeOnRow rows
  before_mark rows zero by agree = agree
  before_mark rows (suc k) by agree = before_mark_at rows k (Some by) agree

  before_unmark : (rows : List (Row O)) (n : ℕ) → All AgreeOnRow (redone rows n) → All AgreeOnRow rows
  before_unmark rows zero agree = agree
  before_unmark rows (suc k) agree = before_mark_at rows k None agree

  before_undo : (operator : List ℕ) (rows : List (Row O)) (n : ℕ) (u : Option UndoRefusal) → All AgreeOnRow (rows_undone operator rows n u) → All AgreeOnRow rows
  before_undo operator rows n None agree =
      before_mark rows n (length rows + 1) (on_first (undone rows n (length rows + 1)) (row_of_undo operator n (Undid n) ∷ []) agree)
  before_undo operator rows n (Some u) agree = on_first rows (row_of_undo operator n (UndoRefused u) ∷ []) agree

  before_redo : (operator : List ℕ) (rows : List (Row O)) (n : ℕ) (u : Option RedoRefusal) → All AgreeOnRow (rows_redone operator rows n u) → All AgreeOnRow rows
  before_redo operator rows n None agree =
      before_unmark rows n (on_first (redone rows n) (row_of_redo operator n (Redid n) ∷ []) agree)
  before_redo operator rows n (Some u) agree = on_first rows (row_of_redo operator n (RedoRefused u) ∷ []) agree

  module _ (asks : O → Bool) (meaning : O → Inquiry Effect) where
    before_call : (first : Entries) (rows : List (Row O)) (call : Call O) → All AgreeOnRow (rows_after asks meaning first rows call) → All AgreeOnRow rows
    before_call first rows (operator, Do c) agree = on_first rows (answered operator c (outcome_of meaning c (replay asks meaning first rows)) ∷ []) agree
    before_call first rows (operator, Undo n) agree = before_undo operator rows n (undo_refusal asks rows n) agree
    before_call first rows (operator, Redo n) agree = before_redo operator rows n (redo_refusal asks rows n) agree

    -- trees that agree on the rows after calls agree on those before
    before_calls : (first : Entries) (rows : List (Row O)) (calls : List (Call O)) → All AgreeOnRow (run asks meaning first rows calls) → All AgreeOnRow rows
    before_calls first rows [] agree = agree
    before_calls first rows (call ∷ calls) agree = before_call first rows call (before_calls first (rows_after asks meaning first rows call) calls agree)

module _ {O : Type 0} {asks : O → Bool} {meaning : O → Inquiry Effect} (laws : OperationLaws asks meaning) (part whole : Entries) where
  -- rows whose survivors do on both trees what the rows say make the same changes to both
  agree_on_replays : (rows : List (Row O)) (row : Row O) → AnswersAlike asks meaning part rows → AnswersAlike asks meaning whole rows → AgreeOn (keys_of row.reading) part whole
      → AgreeOn (keys_of row.reading) (replay asks meaning part rows) (replay asks meaning whole rows)
  agree_on_replays rows row here there agree =
      subst (λ (t : Entries). AgreeOn (keys_of row.reading) t (replay asks meaning whole rows)) (sym (replay_made asks meaning rows part here))
      (subst (λ (u : Entries). AgreeOn (keys_of row.reading) (after_changes (made asks rows) part) u) (sym (replay_made asks meaning rows whole there))
      (agree_on_after (keys_of row.reading) (made asks rows) part whole agree))

  -- so one more call has the same row
  same_row : (rows : List (Row O)) (call : Call O) → AnswersAlike asks meaning part rows → AnswersAlike asks meaning whole rows
      → AgreeOnRows (rows_after asks meaning part rows call) part whole → rows_after asks meaning whole rows call ≡ rows_after asks meaning part rows call
  same_row rows (operator, Do c) here there agree =
      let t = replay asks meaning part rows in
      let u = replay asks meaning whole rows in
      let row = answered operator c (outcome_of meaning c t) in
      let on : AgreeOn (keys_of (outcome_of meaning c t).reading) t u = agree_on_replays rows row here there (on_last part whole rows row agree) in
      ap (λ (o : Outcome). rows ++ answered operator c o ∷ []) (sym (comes_to_the_same meaning c t u on))
  same_row rows (operator, Undo n) here there agree = refl
  same_row rows (operator, Redo n) here there agree = refl

  -- A redo makes changes again that its row made at an earlier moment. So the induction is over rows
  -- of which both trees remember what the survivors did at each moment.
  same_rows : (rows : List (Row O)) (calls : List (Call O)) → Remembers asks meaning part rows → Remembers asks meaning whole rows
      → AgreeOnRows (run asks meaning part rows calls) part whole → run asks meaning whole rows calls ≡ run asks meaning part rows calls
  same_rows rows [] here there agree = refl
  same_rows rows (call ∷ calls) here there agree =
      let next = rows_after asks meaning part rows call in
      let one = same_row rows call (alike_now asks meaning part rows here) (alike_now asks meaning whole rows there) (before_calls part whole asks meaning part next calls agree) in
      let there_too = subst (Remembers asks meaning whole) one (remembers-after laws whole rows call there) in
      ap (λ (rs : List (Row O)). run asks meaning whole rs calls) one ∙ same_rows next calls (remembers-after laws part rows call here) there_too agree

module _ {O : Type 0} {asks : O → Bool} {meaning : O → Inquiry Effect} (laws : OperationLaws asks meaning) where
  pub rows_are_the_same : RowsAreTheSame asks meaning
  rows_are_the_same part whole calls agree = same_rows laws part whole [] calls (remembers laws part []) (remembers laws whole []) agree

  alike_on_part : (part : Entries) (calls : List (Call O)) → AnswersAlike asks meaning part (run asks meaning part [] calls)
  alike_on_part part calls = alike_now asks meaning part (run asks meaning part [] calls) (remembers laws part calls)

  alike_on_whole : (part whole : Entries) (calls : List (Call O)) → AgreeOnRows (run asks meaning part [] calls) part whole → AnswersAlike asks meaning whole (run asks meaning part [] calls)
  alike_on_whole part whole calls agree = subst (AnswersAlike asks meaning whole) (rows_are_the_same part whole calls agree) (alike_now asks meaning whole (run asks meaning whole [] calls) (remembers laws whole calls))

  pub changes_are_the_same : ChangesAreTheSame asks meaning
  changes_are_the_same part whole calls agree =
      let rows = run asks meaning part [] calls in
      let cs = made asks rows in
      let of_part = replay_made asks meaning rows part (alike_on_part part calls) in
      let of_whole = replay_made asks meaning rows whole (alike_on_whole part whole calls agree) in
      let alike = cells_made laws part whole part rows (alike_on_part part calls) agree in
      let same : changes_between whole (replay asks meaning whole rows) ≡ changes_between part (replay asks meaning part rows) =
      ap (changes_between whole) of_whole ∙ same_changes part whole cs alike ∙ sym (ap (changes_between part) of_part) in
      (same, ap (λ changes. after_changes changes whole) (sym same) ∙ (leads whole (replay asks meaning whole rows)).to)

  pub agreement_lasts : AgreementLasts asks meaning
  agreement_lasts part whole calls agree =
      let rows = run asks meaning part [] calls in
      All-weaker (λ (row : Row O). AgreeOn (keys_of row.reading) part whole) (λ (row : Row O). AgreeOn (keys_of row.reading) (replay asks meaning part rows) (replay asks meaning whole rows))
      (λ row on. agree_on_replays laws part whole rows row (alike_on_part part calls) (alike_on_whole part whole calls agree) on) rows agree
