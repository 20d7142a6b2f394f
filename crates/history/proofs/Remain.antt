-- What holds for the rows after any calls.
use Rattle.std.proofs.Common.{◌≡◌, ◌+◌, ℕ, zero, suc, Bool, true, cond, List, [], Option, Some, None, is_some, slice_get, drop, length, refl, sym, ap, subst, ◌∙◌, ◌∷◌, ◌++◌, arith, inl, inr}
use Rattle.std.proofs.lemmas.Bool.{false≢true}
use Rattle.std.proofs.lemmas.Option.{slice_get_within}
use Rattle.link_tree.specs.Trees.{Entries, AreFrom, after_changes}
use Rattle.footprint.specs.Inquiry.{Inquiry}
use Rattle.footprint.specs.declared.outcome.Outcome.{Outcome}
use Rattle.footprint.specs.Operations.{Effect, OperationLaws}
use Rattle.history.specs.declared.row.Row.{Row}
use Rattle.history.specs.declared.row.Request.TheVariants.{Do, Redo}
use Rattle.history.specs.declared.row.RowReply.TheVariants.{Redid}
use Rattle.history.specs.Plans.{planned}
use Rattle.history.specs.Rows.{row_at, redone, answered, row_of_redo, accepted, survivor, first_met, blocker_at, hindrance_at, row_redo_refusal, rows_redone, replay, calls_of, AnswersAlike, AreMarked, Restores, rows_after, run}
use Rattle.history.specs.Laws.{Asked, ACall, ACommit, CommitLeaves, Leaves, LeaveAll, IsRemovable, IsRestorable, Remain, SurvivorsAloneRemain}
use Rattle.history.proofs.Places.{row_pushed, row_redone}
use Rattle.history.proofs.Replayed.{length-mark, removed, legal-after, replay-push, alike-push}
use Rattle.history.proofs.Blockers.{hindered_read}
use Rattle.history.proofs.Restored.{free_hindrance}
use Rattle.history.proofs.Moments.{Remembers, alike_now, put_back, remembers-legal}
use Rattle.history.proofs.Marked.{are_marked}
use Rattle.history.proofs.Agreed.{agreed_outcome}

module _ {O : Type 0} {asks : O → Bool} {meaning : O → Inquiry Effect} (laws : OperationLaws asks meaning) where
  unblocked : (rows : List (Row O)) (k : ℕ) (row : Row O) (o : Option (Row O)) → o ≡ Some row → is_some (survivor asks row) ≡ true → blocker_at asks rows (suc k) o ≡ None
      → first_met asks row.changes (drop (suc k) rows) (suc k + 1) ≡ None
  unblocked rows k row o is stands none =
      sym (ap (λ (b : Bool). cond b (first_met asks row.changes (drop (suc k) rows) (suc k + 1)) None) stands) ∙ sym (ap (blocker_at asks rows (suc k)) is) ∙ none

  removable : (first : Entries) (rows : List (Row O)) → AnswersAlike asks meaning first rows → IsRemovable asks meaning first rows
  removable first rows h zero by row is stands none = cc
  removable first rows h (suc k) by row is stands none =
      let parts = removed laws rows first k (suc k + 1) by row h is stands (unblocked rows k row (slice_get rows k) is stands none) in
      (parts.2, parts.1, parts.0)

  restorable : (first : Entries) (rows : List (Row O)) → Remembers asks meaning first rows → IsRestorable asks meaning first rows
  restorable first rows h zero u row is command undone none = cc
  restorable first rows h (suc k) u row is command undone none = by_command (accepted asks row.request row.reply) refl command
    where
      by_command : (o : Option O) → accepted asks row.request row.reply ≡ o → is_some o ≡ true
          → AreFrom (replay asks meaning first rows) row.changes
          × (replay asks meaning first (redone rows (suc k)) ≡ after_changes row.changes (replay asks meaning first rows))
          × AnswersAlike asks meaning first (redone rows (suc k))
      by_command None command_is some = absurd (false≢true some)
      by_command (Some c) command_is some =
          let free = free_hindrance asks rows k row c u is command_is undone (sym (ap (hindrance_at asks rows (suc k)) is) ∙ none) in
          let parts = put_back laws first rows k row free h in
          (parts.2, parts.1, parts.0)

  -- redoing such a command puts it back
  pub restores : (first : Entries) (rows : List (Row O)) → rows ≡ run asks meaning first [] (calls_of rows) → (operator : List ℕ) (n : ℕ)
      → Restores asks meaning first rows n (rows_after asks meaning first rows (operator, Redo n))
  restores first rows legal operator zero row is command undone none = cc
  restores first rows legal operator (suc k) row is command undone none = by_mark row.undone_by refl undone
    where
      n : ℕ
      n = suc k

      last : Row O
      last = row_of_redo operator n (Redid n)

      -- what must be shown for the new rows
      Is : List (Row O) → Type 0
      Is new = (row_at new n ≡ Some (record row { undone_by = None })) × (replay asks meaning first new ≡ after_changes row.changes (replay asks meaning first rows)) × AnswersAlike asks meaning first new

      not_refused : (o : Option O) (u : ℕ) → is_some o ≡ true → row_redo_refusal o (Some u) ≡ None
      not_refused None u some = absurd (false≢true some)
      not_refused (Some c) u some = refl

      by_mark : (o : Option ℕ) → row.undone_by ≡ o → is_some o ≡ true → Is (rows_after asks meaning first rows (operator, Redo n))
      by_mark None by some = absurd (false≢true some)
      by_mark (Some u) by some =
          let past = remembers-legal laws first rows (calls_of rows) legal in
          let parts = restorable first rows past n u row is command by none in
          let free : row_redo_refusal (accepted asks row.request row.reply) row.undone_by ≡ None =
          ap (row_redo_refusal (accepted asks row.request row.reply)) by ∙ not_refused (accepted asks row.request row.reply) u command in
          let made : rows_after asks meaning first rows (operator, Redo n) ≡ redone rows n ++ last ∷ [] =
          ap (rows_redone operator rows n) (sym (hindered_read asks rows n row is None free (sym none))) in
          let away : n ≡ length (redone rows n) + 1 → ⊥ = λ same. omega (arith, same, length-mark rows k None, slice_get_within rows k row is) in
          subst Is (sym made) (
            row_pushed (redone rows n) last n away ∙ row_redone rows n row is,
            replay-push asks meaning first (redone rows n) last ∙ parts.1,
            alike-push asks meaning first (redone rows n) last parts.2 tt,
          )

  -- whether it is a call or a plan that the tree agrees with, each makes the rows of a call; a
  -- stale plan makes none
  legal-commit : (first : Entries) (rows new : List (Row O)) (operator : List ℕ) (c : O) (made_on : Entries) → rows ≡ run asks meaning first [] (calls_of rows)
      → CommitLeaves asks meaning first rows operator (planned meaning c made_on) new → new ≡ run asks meaning first [] (calls_of new)
  legal-commit first rows new operator c made_on legal (inl (agrees, is)) =
      let same = agreed_outcome meaning c made_on (replay asks meaning first rows) agrees in
      let made : new ≡ rows_after asks meaning first rows (operator, Do c) = is ∙ ap (λ (o : Outcome). rows ++ answered operator c o ∷ []) same in
      subst (λ (rs : List (Row O)). rs ≡ run asks meaning first [] (calls_of rs)) (sym made) (legal-after asks meaning first rows (operator, Do c) legal)
  legal-commit first rows new operator c made_on legal (inr (off, is)) = subst (λ (rs : List (Row O)). rs ≡ run asks meaning first [] (calls_of rs)) (sym is) legal

  legal-next : (first : Entries) (rows new : List (Row O)) (asked : Asked O) → rows ≡ run asks meaning first [] (calls_of rows) → Leaves asks meaning first rows asked new
      → new ≡ run asks meaning first [] (calls_of new)
  legal-next first rows new (ACall call) legal is = subst (λ (rs : List (Row O)). rs ≡ run asks meaning first [] (calls_of rs)) (sym is) (legal-after asks meaning first rows call legal)
  legal-next first rows new (ACommit operator c made_on) legal leaves = legal-commit first rows new operator c made_on legal leaves

  legal-all : (first : Entries) (asked : List (Asked O)) (rows new : List (Row O)) → rows ≡ run asks meaning first [] (calls_of rows) → LeaveAll asks meaning first rows asked new
      → new ≡ run asks meaning first [] (calls_of new)
  legal-all first [] rows new legal is = subst (λ (rs : List (Row O)). rs ≡ run asks meaning first [] (calls_of rs)) (sym is) legal
  legal-all first (asked ∷ later) rows new legal (next, leaves, rest) = legal-all first later next new (legal-next first rows next asked legal leaves) rest

  pub legal_remain : (first : Entries) (rows : List (Row O)) → rows ≡ run asks meaning first [] (calls_of rows) → Remain asks meaning first rows
  legal_remain first rows legal =
      let past = remembers-legal laws first rows (calls_of rows) legal in
      let alike = alike_now asks meaning first rows past in
      record {
        legal = legal;
        alike = alike;
        marks = subst (λ (rs : List (Row O)). AreMarked rs) (sym legal) (are_marked asks meaning first (calls_of rows));
        removal = removable first rows alike;
        restoration = restorable first rows past;
      }

  pub remain : SurvivorsAloneRemain asks meaning
  remain first asked rows leave = legal_remain first rows (legal-all first asked [] rows refl leave)
