-- Runs of sessions to which requests are passed one by one.
use Rattle.std.specs.Prelude.{◌≡◌, ◌≢◌, ◌≤◌, ◌⊎◌, ℕ, zero, suc, false, if◌then◌else◌, IsTrue, List, [], ◌∷◌, All, map, length, take, slice_get, Some}
use Rattle.std.specs.Str.{bytes_eq}
use Rattle.link_tree.specs.Trees.{Entries}
use Rattle.history.specs.Logs.{Log}
use Rattle.history.specs.declared.row.Row.{Row}
use Rattle.history.specs.declared.row.Request.{Request}
use Rattle.shared_admin.specs.declared.log.SessionLog.{SessionLog}
use Rattle.shared_admin.specs.Closing.{IsClosed, IsFirstNot}
use Rattle.shared_admin.specs.Sharing.{is_among}
use Rattle.sessions.specs.Desks.{first_amiss}
use Rattle.sessions.specs.Runs.{requests_in}
use Rattle.sessions.specs.Sessions.{Opened, IsServed, requests_of}
use Rattle.sessions.specs.declared.asks.Ask.{Ask}
use Rattle.sessions.specs.declared.desk.Answered.{Answered}
use Rattle.sessions.specs.declared.desk.Issued.{Issued}
use Rattle.sessions.specs.declared.desk.Job.{Job}

module _ {O : Type 0} where
  -- Each request is of one of these operators.
  abbrev pub AreOf : List (List ℕ) → List (Ask O) → Type 0
  AreOf operators asks = All (λ ask. IsTrue (is_among operators ask.operator)) asks

  -- the requests of an operator, in order
  abbrev pub asked : List ℕ → List (Ask O) → List (Request O)
  asked operator [] = []
  asked operator (ask ∷ asks) = if bytes_eq operator ask.operator then ask.request ∷ asked operator asks else asked operator asks

  -- A log matches its operator's requests.
  abbrev pub IsAsked : List (Ask O) → SessionLog O → Type 0
  IsAsked asks log = requests_of log.entries ≡ asked log.operator asks

  -- A log has no more entries than a history may have rows.
  abbrev pub HasCountable : SessionLog O → Type 0
  HasCountable log = length log.entries ≤ 1000000

  -- This position, from 1 on, is the first at which two request lists differ: before it they are
  -- equal, and at it the requests differ, or only one of the two lists has one.
  abbrev pub DiffersFirstAt : ℕ → List (Request O) → List (Request O) → Type 0
  DiffersFirstAt zero requests wanted = ⊥
  DiffersFirstAt (suc i) requests wanted = (take i requests ≡ take i wanted) × (slice_get requests i ≢ slice_get wanted i)

  -- The operator of the first log that doesn't match the operator's requests, and the first
  -- position at which it differs.
  abbrev pub IsFirstUnasked : List (Ask O) → List (SessionLog O) → List ℕ → ℕ → Type 0
  IsFirstUnasked asks logs operator place =
      (log : SessionLog O) × IsFirstNot (IsAsked asks) logs log × (log.operator ≡ operator) × DiffersFirstAt place (requests_of log.entries) (asked operator asks)

  -- The first position at which a log doesn't match the requests is reported; or all logs match,
  -- but of these answers to these jobs one is rejected, or a job has none: then the position is 0,
  -- and the operator is that of the first such answer, or else of the first such job.
  abbrev pub IsUnserved : List Issued → List Answered → List (Ask O) → List (SessionLog O) → List ℕ → ℕ → Type 0
  IsUnserved issued answers asks logs operator place =
      IsFirstUnasked asks logs operator place ⊎ (All (IsAsked asks) logs × (place ≡ 0) × (first_amiss issued answers ≡ Some operator))

  -- The rows of an operator hold exactly its requests, in order.
  abbrev pub HoldsAsked : List (Ask O) → List (Row O) → List ℕ → Type 0
  HoldsAsked asks rows operator = requests_in rows operator ≡ asked operator asks

  -- A closed run, in which each operator's rows hold exactly its requests.
  pub record HasFed (tree : Entries) (operators : List (List ℕ)) (asks : List (Ask O)) (history : Log O) (logs : List (SessionLog O)) : Type 0 where
    pub closed : IsClosed tree operators logs history
    pub asked : All (HoldsAsked asks history.rows) operators

  -- the jobs of requests, all without an answer
  abbrev pub jobs_of : List (Ask O) → List Issued
  jobs_of = map (λ ask. record { operator = ask.operator; is_answered = false })

  -- A job was served in a session, and the answer is the reply of its row.
  pub record IsAnswerOf (old : Opened O) (job : Job O) (new : Opened O) (answer : Answered) : Type 0 where
    pub served : IsServed old job.request new
    pub number : answer.number ≡ job.number
    pub operator : answer.operator ≡ job.operator
    pub reply : answer.reply ≡ served.row.reply
