-- Sessions: what each has seen, and its log.
use Rattle.std.specs.Prelude.{◌≡◌, ℕ, List, [], ◌∷◌, ◌++◌, map, refl}
use Rattle.history.specs.declared.row.Request.{Request}
use Rattle.shared_admin.specs.declared.holds.NewRow.{NewRow}
use Rattle.shared_admin.specs.declared.log.LogEntry.{LogEntry}
use Rattle.sessions.specs.declared.attempts.Attempt.{Attempt}
use Rattle.sessions.specs.declared.attempts.Attempt.TheVariants.{Served, Stale}

-- The operator of a session, how many rows it has seen, and its log.
pub record Opened (O : Type 0) : Type 0 where
  pub operator : List ℕ
  pub front : ℕ
  pub entries : List (LogEntry O)

abbrev pub opened_parts : {O : Type 0} → Opened O → List ℕ × ℕ × List (LogEntry O)
opened_parts session = (session.operator, session.front, session.entries)

abbrev pub of_opened_parts : {O : Type 0} → List ℕ × ℕ × List (LogEntry O) → Opened O
of_opened_parts (operator, front, entries) = record { operator = operator; front = front; entries = entries }

pub of_own_opened_parts : {O : Type 0} (session : Opened O) → of_opened_parts (opened_parts session) ≡ session
of_own_opened_parts session = refl

-- what the entry of a request holds: how many rows had been seen before, and the number and the
-- reply of the row that was made
abbrev pub entry_of : {O : Type 0} → Request O → ℕ → NewRow → LogEntry O
entry_of request seen row = record { request = request; seen = seen; row = row.number; reply = row.reply }

-- A request that was served adds one entry, and its row is then the last one seen.
pub record IsServed {O : Type 0} (old : Opened O) (request : Request O) (new : Opened O) : Type 0 where
  pub row : NewRow
  pub added : new ≡ record { operator = old.operator; front = row.number; entries = old.entries ++ entry_of request old.front row ∷ [] }

-- the requests of entries
abbrev pub requests_of : {O : Type 0} → List (LogEntry O) → List (Request O)
requests_of = map (λ entry. entry.request)

-- The operation of a stale plan is kept.
abbrev pub KeepsOperation : {O : Type 0} → O → Attempt O → Type 0
KeepsOperation operation (Served row) = Unit {0}
KeepsOperation operation (Stale left) = left ≡ operation
