-- What reading returns: a value or an error, which the bytes determine, unless the source failed or
-- memory ran out.
use Rattle.std.specs.Prelude.{◌≡◌, ℕ, List, Option, Some, Result, Ok, Err}
use Rattle.byte_streams.specs.declared.counters.Counters.{Counters}
use Rattle.byte_streams.specs.declared.read_error.ReadError.{ReadError}
use Rattle.byte_streams.specs.declared.read_error.ReadError.TheVariants as errors
use Rattle.byte_streams.specs.Streams.{HasCause, IsCalm, StopsAt, Takes}

-- Parsing a text, without a source, fails with this error, unless memory ran out.
abbrev pub IsFaultOf : {Y F : Type 0} → ReadError F → Result Y F → Type 0
IsFaultOf (errors.Fault fault) read = read ≡ Err fault
IsFaultOf errors.ReadFault read = ⊥
IsFaultOf errors.OutOfMemory read = Unit {0}

-- The result of parsing a text is this: the value's model, or the error.
abbrev pub Gives : {X Y F : Type 0} → (X → Y) → Result X (ReadError F) → Result Y F → Type 0
Gives view (Ok x) read = read ≡ Ok (view x)
Gives view (Err e) read = IsFaultOf e read

-- The error is that of the bytes.
abbrev pub FailsAs : {Y F : Type 0} → ReadError F → Result Y F → Type 0
FailsAs (errors.Fault fault) read = read ≡ Err fault
FailsAs errors.ReadFault read = Unit {0}
FailsAs errors.OutOfMemory read = Unit {0}

-- The result of reading to the end of the bytes is this: the value's model, or the error.
abbrev pub ReadsWhole : {X Y F : Type 0} → (X → Y) → Result X (ReadError F) → Result Y F → Type 0
ReadsWhole view (Ok x) read = read ≡ Ok (view x)
ReadsWhole view (Err e) read = FailsAs e read

-- The result of reading from the front of the bytes is this, and the bytes after it remain.
abbrev pub ReadsFront : {X Y F : Type 0} → (X → Y) → Option (List ℕ) → Result X (ReadError F) → Result (Y × List ℕ) F → Type 0
ReadsFront view left (Ok x) read = (rest : List ℕ) × (left ≡ Some rest) × (read ≡ Ok (view x, rest))
ReadsFront view left (Err e) read = FailsAs e read

-- A read fault has a cause. If something was read, or the bytes have a fault, the source didn't
-- fail.
abbrev pub AccountsRead : {X F : Type 0} → Result X (ReadError F) → Counters → Counters → Type 0
AccountsRead (Ok x) old new = IsCalm old new
AccountsRead (Err errors.ReadFault) old new = HasCause old new
AccountsRead (Err (errors.Fault fault)) old new = IsCalm old new
AccountsRead (Err errors.OutOfMemory) old new = Unit {0}

-- An error is reported at the end of the bytes or with the byte that decides it, and a read fault
-- occurs only while the bytes read decide nothing.
abbrev pub StopsInTime : {X F : Type 0} → (List ℕ → Type 0) → Result X (ReadError F) → (old new : Option (List ℕ)) → Type 0
StopsInTime IsOpen (Ok x) old new = Unit {0}
StopsInTime IsOpen (Err (errors.Fault fault)) old new = Takes old new (StopsAt IsOpen)
StopsInTime IsOpen (Err errors.ReadFault) old new = Takes old new (λ taken rest. IsOpen taken)
StopsInTime IsOpen (Err errors.OutOfMemory) old new = Unit {0}
