-- A run that is closed has no fault.
use Rattle.std.proofs.Common.{◌≡◌, ℕ, zero, suc, List, [], ◌∷◌, ◌++◌, All, Contains, Some, None, refl, sym, subst, inl, inr}
use Rattle.link_tree.specs.Trees.{Entries}
use Rattle.history.specs.Logs.{Log}
use Rattle.history.specs.declared.row.Row.{Row}
use Rattle.shared_admin.specs.declared.close.CloseFault.{CloseFault}
use Rattle.shared_admin.specs.declared.close.CloseFault.TheVariants.{Missing, Stranger, Mismatch, OtherTree}
use Rattle.shared_admin.specs.declared.log.LogEntry.{LogEntry}
use Rattle.shared_admin.specs.declared.log.SessionLog.{SessionLog}
use Rattle.shared_admin.specs.Closing.{Numbered, rows_of, entries_of, AreTold, DiffersAt, IsTold, HasLog, IsOwnLog, AreOwnLogs, IsOwnRow, IsFirstMismatch, IsFirstStrangeLog, IsClosed, IsFault}
use Rattle.shared_admin.proofs.Firsts.{one_of_all, not_all}
use Rattle.shared_admin.proofs.Own.{own_at}

module _ {O : Type 0} where
  told_off : (place : ℕ) (entries : List (LogEntry O)) (rows : List (Numbered O)) → AreTold entries rows → DiffersAt place entries rows → ⊥
  told_off zero entries rows told differs = differs
  told_off (suc zero) [] [] told differs = differs
  told_off (suc zero) [] (row ∷ rows) told differs = told
  told_off (suc zero) (entry ∷ entries) [] told differs = told
  told_off (suc zero) (entry ∷ entries) (row ∷ rows) told differs = differs told.0
  told_off (suc (suc place)) [] rows told differs = differs
  told_off (suc (suc place)) (entry ∷ entries) [] told differs = differs
  told_off (suc (suc place)) (entry ∷ entries) (row ∷ rows) told differs = told_off (suc place) entries rows told.1 differs.1

  first_off : (operators : List (List ℕ)) (logs : List (SessionLog O)) (rows : List (Row O)) (operator : List ℕ) (place : ℕ) → IsFirstMismatch operators logs rows operator place → All (IsTold logs rows) operators → ⊥
  first_off operators logs rows operator place first all =
      told_off place (entries_of logs operator) (rows_of operator 1 rows) (one_of_all (IsTold logs rows) operators first.0 first.1 operator first.2 all) first.4

  strange_off : (operators : List (List ℕ)) (logs : List (SessionLog O)) (operator : List ℕ) → IsFirstStrangeLog operators logs operator → AreOwnLogs operators logs → ⊥
  strange_off operators logs operator first own = first.5 (own_at operators logs first.0 first.1 first.2 first.3 own)

  pub not_closed : (given : Entries) (operators : List (List ℕ)) (logs : List (SessionLog O)) (history : Log O) (fault : CloseFault) → IsFault given operators logs history fault → ¬ IsClosed given operators logs history
  not_closed given operators logs history (Missing operator) first closed = not_all (HasLog logs) operators operator first closed.each_has_a_log
  not_closed given operators logs history (Stranger operator) (have, inl first) closed = strange_off operators logs operator first closed.no_other_log
  not_closed given operators logs history (Stranger operator) (have, inr (own, (row, first, its))) closed = not_all (IsOwnRow operators) history.rows row first closed.no_other_row
  not_closed given operators logs history (Mismatch operator place) (have, own, rows, first) closed = first_off operators logs history.rows operator place first closed.told
  not_closed given operators logs history OtherTree (have, own, rows, told, other) closed = other closed.same_tree

  -- a fault, which implies that the run isn't closed
  pub with_fault : (given : Entries) (operators : List (List ℕ)) (logs : List (SessionLog O)) (history : Log O) (fault : CloseFault) → IsFault given operators logs history fault
      → IsFault given operators logs history fault × (¬ IsClosed given operators logs history)
  with_fault given operators logs history fault first = (first, not_closed given operators logs history fault first)
