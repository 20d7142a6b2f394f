-- What is checked when a shared history is closed: the sessions' logs against its rows.
use Rattle.std.specs.Prelude.{◌≡◌, ◌≢◌, ℕ, zero, suc, ◌+◌, ◌<◌, Bool, ◌&&◌, not, if◌then◌else◌, IsTrue, IsFalse, List, [], ◌∷◌, ◌++◌, map, All, ◌⊎◌}
use Rattle.std.specs.List.{list_any, IsDistinct}
use Rattle.std.specs.Str.{bytes_eq}
use Rattle.link_tree.specs.Trees.{Entries}
use Rattle.history.specs.Logs.{Log}
use Rattle.history.specs.declared.row.Row.{Row}
use Rattle.shared_admin.specs.Sharing.{is_among}
use Rattle.shared_admin.specs.declared.log.LogEntry.{LogEntry}
use Rattle.shared_admin.specs.declared.log.SessionLog.{SessionLog}
use Rattle.shared_admin.specs.declared.close.CloseFault.{CloseFault}
use Rattle.shared_admin.specs.declared.close.CloseFault.TheVariants.{Missing, Stranger, Mismatch, OtherTree}

-- The first element of a list that fails the condition, with those before it.
abbrev pub IsFirstNot : {A : Type 0} → (A → Type 0) → List A → A → Type 0
IsFirstNot {A} P xs x = (before later : List A) × (xs ≡ before ++ x ∷ later) × All P before × (¬ P x)

-- a row with its number
abbrev pub Numbered : Type 0 → Type 0
Numbered O = ℕ × Row O

module _ {O : Type 0} where
  abbrev pub operators_of : List (SessionLog O) → List (List ℕ)
  operators_of = map (λ log. log.operator)

  -- whether there is a log of an operator
  abbrev pub has_log : List (SessionLog O) → List ℕ → Bool
  has_log logs operator = list_any (λ log. bytes_eq operator log.operator) logs

  -- One of the logs is of this operator.
  abbrev pub HasLog : List (SessionLog O) → List ℕ → Type 0
  HasLog logs operator = IsTrue (has_log logs operator)

  -- A log belongs to one of the operators, and no earlier log belongs to the same one.
  abbrev pub IsOwnLog : List (List ℕ) → List (SessionLog O) → SessionLog O → Type 0
  IsOwnLog operators before log = IsTrue (is_among operators log.operator) × IsFalse (has_log before log.operator)

  -- The logs belong to these operators, at most one to each.
  pub record AreOwnLogs (operators : List (List ℕ)) (logs : List (SessionLog O)) : Type 0 where
    pub known : All (λ log. IsTrue (is_among operators log.operator)) logs
    pub distinct : IsDistinct bytes_eq (operators_of logs)

  -- A row belongs to one of the operators.
  abbrev pub IsOwnRow : List (List ℕ) → Row O → Type 0
  IsOwnRow operators row = IsTrue (is_among operators row.operator)

  -- the rows of an operator with their numbers, the first of the list being row `at`
  abbrev pub rows_of : List ℕ → ℕ → List (Row O) → List (Numbered O)
  rows_of operator at [] = []
  rows_of operator at (row ∷ rows) = if bytes_eq operator row.operator then (at, row) ∷ rows_of operator (at + 1) rows else rows_of operator (at + 1) rows

  -- the entries of an operator's first log
  abbrev pub entries_of : List (SessionLog O) → List ℕ → List (LogEntry O)
  entries_of [] operator = []
  entries_of (log ∷ logs) operator = if bytes_eq operator log.operator then log.entries else entries_of logs operator

  -- An entry matches a row: its request, its number and its reply are the row's; and the number of
  -- rows seen before is less than the row's number.
  pub record Tells (entry : LogEntry O) (row : Numbered O) : Type 0 where
    pub request : entry.request ≡ row.1.request
    pub number : entry.row ≡ row.0
    pub reply : entry.reply ≡ row.1.reply
    pub later : entry.seen < row.0

  -- Entries match rows, one by one.
  abbrev pub AreTold : List (LogEntry O) → List (Numbered O) → Type 0
  AreTold [] [] = Unit {0}
  AreTold [] (row ∷ rows) = ⊥
  AreTold (entry ∷ entries) [] = ⊥
  AreTold (entry ∷ entries) (row ∷ rows) = Tells entry row × AreTold entries rows

  -- The first position, from 1 on, at which an entry doesn't match its row, or only one of the two
  -- exists.
  abbrev pub DiffersAt : ℕ → List (LogEntry O) → List (Numbered O) → Type 0
  DiffersAt zero entries rows = ⊥
  DiffersAt (suc zero) [] [] = ⊥
  DiffersAt (suc zero) [] (row ∷ rows) = Unit {0}
  DiffersAt (suc zero) (entry ∷ entries) [] = Unit {0}
  DiffersAt (suc zero) (entry ∷ entries) (row ∷ rows) = ¬ Tells entry row
  DiffersAt (suc (suc place)) [] rows = ⊥
  DiffersAt (suc (suc place)) (entry ∷ entries) [] = ⊥
  DiffersAt (suc (suc place)) (entry ∷ entries) (row ∷ rows) = Tells entry row × DiffersAt (suc place) entries rows

  -- An operator's log matches the operator's rows.
  abbrev pub IsTold : List (SessionLog O) → List (Row O) → List ℕ → Type 0
  IsTold logs rows operator = AreTold (entries_of logs operator) (rows_of operator 1 rows)

  -- A closed run: each operator has a log and there is no other log; each log matches its
  -- operator's rows, and there is no other row; and the first tree is the one that was given.
  pub record IsClosed (given : Entries) (operators : List (List ℕ)) (logs : List (SessionLog O)) (history : Log O) : Type 0 where
    pub each_has_a_log : All (HasLog logs) operators
    pub no_other_log : AreOwnLogs operators logs
    pub no_other_row : All (IsOwnRow operators) history.rows
    pub told : All (IsTold logs history.rows) operators
    pub same_tree : history.first ≡ given

  -- the operator of the first log that belongs to none of the operators, or to one that has an
  -- earlier log
  abbrev pub IsFirstStrangeLog : List (List ℕ) → List (SessionLog O) → List ℕ → Type 0
  IsFirstStrangeLog operators logs operator =
      (before later : List (SessionLog O)) × (log : SessionLog O) × (logs ≡ before ++ log ∷ later) × AreOwnLogs operators before × (¬ IsOwnLog operators before log) × (log.operator ≡ operator)

  -- the operator of the first row that belongs to none of the operators
  abbrev pub IsFirstStrangeRow : List (List ℕ) → List (Row O) → List ℕ → Type 0
  IsFirstStrangeRow operators rows operator = (row : Row O) × IsFirstNot (IsOwnRow operators) rows row × (row.operator ≡ operator)

  -- The first operator whose log doesn't match its rows, and the first position at which they
  -- differ.
  abbrev pub IsFirstMismatch : List (List ℕ) → List (SessionLog O) → List (Row O) → List ℕ → ℕ → Type 0
  IsFirstMismatch operators logs rows operator place =
      (before later : List (List ℕ)) × (operators ≡ before ++ operator ∷ later) × All (IsTold logs rows) before × DiffersAt place (entries_of logs operator) (rows_of operator 1 rows)

  -- The first fault of a run that isn't closed: the faults are checked in this order.
  abbrev pub IsFault : Entries → List (List ℕ) → List (SessionLog O) → Log O → CloseFault → Type 0
  IsFault given operators logs history (Missing operator) = IsFirstNot (HasLog logs) operators operator
  IsFault given operators logs history (Stranger operator) =
      All (HasLog logs) operators × (IsFirstStrangeLog operators logs operator ⊎ (AreOwnLogs operators logs × IsFirstStrangeRow operators history.rows operator))
  IsFault given operators logs history (Mismatch operator place) =
      All (HasLog logs) operators × AreOwnLogs operators logs × All (IsOwnRow operators) history.rows × IsFirstMismatch operators logs history.rows operator place
  IsFault given operators logs history OtherTree =
      All (HasLog logs) operators × AreOwnLogs operators logs × All (IsOwnRow operators) history.rows × All (IsTold logs history.rows) operators × (history.first ≢ given)
