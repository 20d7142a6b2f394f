-- Runs of concurrent sessions.
use Rattle.std.specs.Prelude.{◌≡◌, ℕ, List, [], ◌∷◌, All, map}
use Rattle.link_tree.specs.Trees.{Entries}
use Rattle.history.specs.Logs.{Log}
use Rattle.history.specs.declared.row.Row.{Row}
use Rattle.history.specs.declared.row.Request.{Request}
use Rattle.shared_admin.specs.declared.log.SessionLog.{SessionLog}
use Rattle.shared_admin.specs.Closing.{rows_of, IsClosed}
use Rattle.sessions.specs.Sessions.{requests_of}
use Rattle.sessions.specs.declared.works.Work.{Work}

module _ {O : Type 0} where
  -- A log has exactly an operator's requests, in order.
  abbrev pub IsWorkOf : List ℕ → List (Request O) → SessionLog O → Type 0
  IsWorkOf operator requests log = (log.operator ≡ operator) × (requests_of log.entries ≡ requests)

  -- The logs have exactly the operators' requests, one log per operator.
  abbrev pub AreWorkOf : List (Work O) → List (SessionLog O) → Type 0
  AreWorkOf [] [] = Unit {0}
  AreWorkOf [] (log ∷ logs) = ⊥
  AreWorkOf (work ∷ works) [] = ⊥
  AreWorkOf (work ∷ works) (log ∷ logs) = IsWorkOf work.operator work.requests log × AreWorkOf works logs

  -- The logs are those of these operators, one log per operator, in this order.
  abbrev pub AreInOrder : List (List ℕ) → List (SessionLog O) → Type 0
  AreInOrder operators logs = map (λ log. log.operator) logs ≡ operators

  -- the operators of the work, in order
  abbrev pub operators_of : List (Work O) → List (List ℕ)
  operators_of = map (λ work. work.operator)

  -- the requests of an operator's rows, in order
  abbrev pub requests_in : List (Row O) → List ℕ → List (Request O)
  requests_in rows operator = map (λ row. row.1.request) (rows_of operator 1 rows)

  -- The rows of an operator hold exactly its requests, in order.
  abbrev pub HoldsWork : List (Row O) → Work O → Type 0
  HoldsWork rows work = requests_in rows work.operator ≡ work.requests

  -- A closed run, in which each operator's rows hold exactly its requests.
  pub record HasRun (tree : Entries) (works : List (Work O)) (history : Log O) (logs : List (SessionLog O)) : Type 0 where
    pub closed : IsClosed tree (operators_of works) logs history
    pub work : All (HoldsWork history.rows) works
