-- If logs match the rows of a history, the number of their entries fits, as the number of rows
-- does.
use Rattle.std.proofs.Common.{◌≡◌, ℕ, suc, ◌+◌, ◌≤◌, true, false, ◌||◌, List, [], ◌∷◌, All, length, refl, sym, ap, subst, ◌∙◌, cond, inl, inr, arith}
use Rattle.std.specs.List.{IsDistinct, AllByRecursion}
use Rattle.std.specs.Str.{bytes_eq}
use Rattle.std.specs.Cmp.Lexicographic.{nat_list_eq_equiv}
use Rattle.std.proofs.lemmas.Bool.{cases_Bool, true≢false}
use Rattle.std.proofs.lemmas.List.Elements.{All-head, All-tail, All-nil, All-cons}
use Rattle.std.proofs.lemmas.Map.Keys.{IsDistinct-head, IsDistinct-tail}
use Rattle.std.proofs.lemmas.Slice.Eq.{bytes_eq-Decides}
use Rattle.link_tree.specs.Trees.{Entries}
use Rattle.history.specs.Logs.{Log}
use Rattle.history.specs.declared.row.Row.{Row}
use Rattle.shared_admin.specs.Sharing.{is_among}
use Rattle.shared_admin.specs.declared.log.LogEntry.{LogEntry}
use Rattle.shared_admin.specs.declared.log.SessionLog.{SessionLog}
use Rattle.shared_admin.specs.Closing.{Numbered, rows_of, entries_of, operators_of, AreTold, IsTold, IsClosed}
use Rattle.sessions.specs.Fed.{HasCountable}

module _ {O : Type 0} where
  as_many : (entries : List (LogEntry O)) (rows : List (Numbered O)) → AreTold entries rows → length entries ≡ length rows
  as_many [] [] told = refl
  as_many [] (row ∷ rows) told = absurd told
  as_many (entry ∷ entries) [] told = absurd told
  as_many (entry ∷ entries) (row ∷ rows) told = ap suc (as_many entries rows told.1)

  some_of : (operator : List ℕ) (at : ℕ) (rows : List (Row O)) → length (rows_of operator at rows) ≤ length rows
  some_of operator at [] = omega arith
  some_of operator at (row ∷ rows) = elim (cases_Bool (bytes_eq operator row.operator)) [
    | inl here ↦ omega (arith, some_of operator (at + 1) rows, ap (λ b. length (cond b ((at, row) ∷ rows_of operator (at + 1) rows) (rows_of operator (at + 1) rows))) here)
    | inr away ↦ omega (arith, some_of operator (at + 1) rows, ap (λ b. length (cond b ((at, row) ∷ rows_of operator (at + 1) rows) (rows_of operator (at + 1) rows))) away)
  ]

  module _ (logs : List (SessionLog O)) (rows : List (Row O)) (few : length rows ≤ 1000000) where
    -- the entries of an operator's log
    abbrev AreFew : List (SessionLog O) → List ℕ → Type 0
    AreFew ls operator = length (entries_of ls operator) ≤ 1000000

    of_one : (operators : List (List ℕ)) (operator : List ℕ) → is_among operators operator ≡ true → All (IsTold logs rows) operators → AreFew logs operator
    of_one [] operator among told = absurd (true≢false (sym among))
    of_one (one ∷ operators) operator among told = elim (cases_Bool (bytes_eq operator one)) [
      | inl here ↦ (
          let its : IsTold logs rows operator = subst (IsTold logs rows) (sym ((bytes_eq-Decides operator one).0 here)) (All-head (IsTold logs rows) one operators told) in
          omega (arith, few, some_of operator 1 rows, as_many (entries_of logs operator) (rows_of operator 1 rows) its))
      | inr away ↦ of_one operators operator (sym (ap (λ b. b || is_among operators operator) away) ∙ among) (All-tail (IsTold logs rows) one operators told)
    ]

    of_each : (operators : List (List ℕ)) (some : List (SessionLog O)) → All (λ log. is_among operators log.operator ≡ true) some → All (IsTold logs rows) operators → All (λ log. AreFew logs log.operator) some
    of_each operators [] known told = All-nil (λ log. AreFew logs log.operator)
    of_each operators (log ∷ some) known told =
        All-cons (λ log. AreFew logs log.operator) log some (of_one operators log.operator (All-head (λ log. is_among operators log.operator ≡ true) log some known) told)
        (of_each operators some (All-tail (λ log. is_among operators log.operator ≡ true) log some known) told)

  -- without one log, the other logs' entries are the same
  without : (log : SessionLog O) (logs some : List (SessionLog O)) → AllByRecursion (λ other. bytes_eq log.operator other ≡ false) (operators_of some)
      → All (λ one. length (entries_of (log ∷ logs) one.operator) ≤ 1000000) some → All (λ one. length (entries_of logs one.operator) ≤ 1000000) some
  without log logs [] away few = All-nil (λ one. length (entries_of logs one.operator) ≤ 1000000)
  without log logs (one ∷ some) away few =
      let off : bytes_eq one.operator log.operator ≡ false = nat_list_eq_equiv.symm one.operator log.operator ∙ away.0 in
      All-cons (λ one. length (entries_of logs one.operator) ≤ 1000000) one some
      (subst (λ b. length (cond b log.entries (entries_of logs one.operator)) ≤ 1000000) off (All-head (λ one. length (entries_of (log ∷ logs) one.operator) ≤ 1000000) one some few))
      (without log logs some away.1 (All-tail (λ one. length (entries_of (log ∷ logs) one.operator) ≤ 1000000) one some few))

  own : (logs : List (SessionLog O)) → IsDistinct bytes_eq (operators_of logs) → All (λ one. length (entries_of logs one.operator) ≤ 1000000) logs → All HasCountable logs
  own [] once few = All-nil HasCountable
  own (log ∷ logs) once few =
      let here : bytes_eq log.operator log.operator ≡ true = (bytes_eq-Decides log.operator log.operator).1 refl in
      All-cons HasCountable log logs
      (subst (λ b. length (cond b log.entries (entries_of logs log.operator)) ≤ 1000000) here (All-head (λ one. length (entries_of (log ∷ logs) one.operator) ≤ 1000000) log logs few))
      (own logs (IsDistinct-tail bytes_eq log.operator (operators_of logs) once)
      (without log logs logs (IsDistinct-head bytes_eq log.operator (operators_of logs) once) (All-tail (λ one. length (entries_of (log ∷ logs) one.operator) ≤ 1000000) log logs few)))

  pub countable : (tree : Entries) (operators : List (List ℕ)) (given logs : List (SessionLog O)) (history : Log O) → IsClosed tree operators given history → logs ≡ given → length history.rows ≤ 1000000 → All HasCountable logs
  countable tree operators given logs history closed same few =
      subst (All HasCountable) (sym same) (own given closed.no_other_log.distinct (of_each given history.rows few operators given closed.no_other_log.known closed.told))
