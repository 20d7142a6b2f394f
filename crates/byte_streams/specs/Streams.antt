-- What one call of a source or a sink does: read(2), write(2). Unknown bytes are None, and then
-- nothing is stated about them.
use Rattle.std.specs.Prelude.{◌≡◌, ◌≢◌, ℕ, ◌+◌, ◌-◌, ◌^◌, ◌<◌, ◌≤◌, ◌⊎◌, min, max, zero, suc, List, [], ◌∷◌, ◌++◌, length, take, Option, Some, None, Result, Ok, Err, All}
use Rattle.std.specs.Io.KnownBytes.{Keeps, Appends, Consumes, IsAtEnd}
use Rattle.byte_streams.specs.declared.counters.Counters.{Counters}
use Rattle.byte_streams.specs.declared.stream.Stop.{Stop}
use Rattle.byte_streams.specs.declared.stream.Stop.TheVariants.{Interrupted, Failed}
use Prim.Native.Char.{code}

-- one more, saturating at the largest 64-bit value
abbrev pub one_more : ℕ → ℕ
one_more n = min (n + 1) (2 ^ 64 - 1)

-- A byte is the first of the remaining ones; `None` means that none remains.
abbrev pub GivesNext : Option (List ℕ) → Option (List ℕ) → Option ℕ → Type 0
GivesNext old new (Some b) = Consumes old new (b ∷ [])
GivesNext old new None = IsAtEnd old × Keeps old new

-- Some bytes are the first of the remaining ones; there are none only if none remains.
abbrev pub GivesSome : Option (List ℕ) → Option (List ℕ) → List ℕ → Type 0
GivesSome old new bytes = Consumes old new bytes × (bytes ≡ [] → IsAtEnd old)

-- no byte of these is a line end
abbrev pub HasNoLineEnd : List ℕ → Type 0
HasNoLineEnd bytes = All (λ b. b ≢ code "\n") bytes

-- A failure is counted, and so are interruptions in a row: any other outcome ends the row. The
-- longest row is kept.
abbrev pub counters_after : {T : Type 0} → Counters → Result T Stop → Counters
counters_after old (Ok x) = record { failures = old.failures; interruptions = 0; longest_row = old.longest_row }
counters_after old (Err Failed) = record { failures = one_more old.failures; interruptions = 0; longest_row = old.longest_row }
counters_after old (Err Interrupted) = record { failures = old.failures; interruptions = one_more old.interruptions; longest_row = max old.longest_row (one_more old.interruptions) }

-- A write that accepts no bytes counts as a failure.
abbrev pub counters_after_write : Counters → Result ℕ Stop → Counters
counters_after_write old (Ok zero) = counters_after {T = ℕ} old (Err Failed)
counters_after_write old (Ok (suc n)) = counters_after old (Ok (suc n))
counters_after_write old (Err stop) = counters_after {T = ℕ} old (Err stop)

-- The bytes that a write accepted are appended to what was written before.
abbrev pub TakesBytes : Option (List ℕ) → Option (List ℕ) → Result ℕ Stop → List ℕ → Type 0
TakesBytes old new (Ok n) bytes = (n ≤ length bytes) × Appends old new (take n bytes)
TakesBytes old new (Err stop) bytes = Keeps old new

-- Why a stream was given up: it failed, or was interrupted 1,000 times in a row.
abbrev pub HasCause : Counters → Counters → Type 0
HasCause old new = (new.failures ≡ one_more old.failures) ⊎ (1000 ≤ new.interruptions)

-- It did not fail, and was not interrupted 1,000 times in a row. Earlier interruptions count
-- towards the first row.
pub record IsCalm (old new : Counters) : Type 0 where
  pub failures : new.failures ≡ old.failures
  pub interruptions : new.interruptions ≤ old.interruptions
  pub longest_row : new.longest_row ≤ max old.longest_row (old.interruptions + 999)

-- A fault has such a cause, and without a fault the stream had no such cause.
abbrev pub Accounts : {X E : Type 0} → Result X E → Counters → Counters → Type 0
Accounts (Ok x) old new = IsCalm old new
Accounts (Err e) old new = HasCause old new

-- Some of the bytes were written, at least one, or none was.
abbrev pub WritesSome : {E : Type 0} → Option (List ℕ) → Option (List ℕ) → Result ℕ E → List ℕ → Type 0
WritesSome old new (Ok n) bytes = (0 < n) × (n ≤ length bytes) × Appends old new (take n bytes)
WritesSome old new (Err e) bytes = Keeps old new

-- Exactly N bytes of a text were written.
abbrev pub StopsIn : Option (List ℕ) → Option (List ℕ) → List ℕ → ℕ → Type 0
StopsIn before now text n = (n ≤ length text) × Appends before now (take n text)

-- Of the remaining bytes, if they are known, these were read, and the rest remains.
abbrev pub Takes : (old new : Option (List ℕ)) → (List ℕ → List ℕ → Type 0) → Type 0
Takes old new P = (bytes : List ℕ) → old ≡ Some bytes → (taken rest : List ℕ) × (bytes ≡ taken ++ rest) × (new ≡ Some rest) × P taken rest

-- Reading stopped at the end of the bytes, or with the deciding byte: the bytes before it decided
-- nothing.
abbrev pub StopsAt : (List ℕ → Type 0) → (taken rest : List ℕ) → Type 0
StopsAt IsOpen taken rest = (IsOpen taken × (rest ≡ [])) ⊎ ((before : List ℕ) × (last : ℕ) × (taken ≡ before ++ last ∷ []) × IsOpen before)
