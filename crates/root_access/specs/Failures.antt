-- Failures that result from other errors, and which failure is reported of a path.
use Rattle.std.specs.Prelude.{◌≡◌, ℕ, List, string_bytes}
use Rattle.std.specs.Str.Lossy.{utf8_lossy}
use Rattle.disk.specs.declared.capture_error.CaptureError.{CaptureError}
use Rattle.disk.specs.declared.capture_error.CaptureError.TheVariants as captures
use Rattle.disk.specs.declared.disk.Oddity.{Oddity}
use Rattle.disk.specs.declared.disk.Oddity.TheVariants as oddities
use Rattle.disk.specs.declared.error.ApplyError.{ApplyError}
use Rattle.disk.specs.declared.error.ApplyError.TheVariants as applies
use Rattle.disk.specs.declared.error.StepError.{StepError}
use Rattle.disk.specs.declared.error.StepError.TheVariants as steps
use Rattle.real_roots.specs.declared.trouble.Trouble.{Trouble}
use Rattle.real_roots.specs.declared.trouble.Trouble.TheVariants as troubles
use Rattle.root_runs.specs.Escapes.{shown}
use Rattle.kept_texts.specs.declared.faults.LineFault.TheVariants as faults
use Rattle.kept_roots.specs.declared.error.HistoryError.{HistoryError}
use Rattle.kept_roots.specs.declared.error.HistoryError.TheVariants as histories
use Rattle.kept_runs.specs.declared.errors.KeptError.{KeptError}
use Rattle.kept_runs.specs.declared.errors.KeptError.TheVariants as keeps
use Rattle.kept_runs.specs.declared.errors.LinesError.{LinesError}
use Rattle.kept_runs.specs.declared.errors.LinesError.TheVariants as lines
use Rattle.root_access.specs.declared.failure.Failure.{Failure}
use Rattle.root_access.specs.declared.failure.Failure.TheVariants as failures
use Rattle.root_access.specs.declared.failure.Reason.{Reason}
use Rattle.root_access.specs.declared.failure.Reason.TheVariants as reasons
use Rattle.root_access.specs.declared.rules.TheConstants.{RULES}

-- What the system refused is a failure of the root. If all was done before, that is said too.
abbrev pub of_history : HistoryError → Failure
of_history (histories.At path fault) = failures.History (histories.At path fault)
of_history (histories.NoFile path) = failures.History (histories.NoFile path)
of_history histories.TooMany = failures.History histories.TooMany
of_history (histories.TooLarge path most) = failures.History (histories.TooLarge path most)
of_history (histories.MayNotLast trouble) = failures.Unsynced trouble
of_history histories.Busy = failures.History histories.Busy
of_history (histories.Trouble trouble) = failures.Root trouble

-- A history that is too long, or that was made by other rules, has a failure of its own. With any
-- other fault it is unreadable.
abbrev pub of_kept : KeptError → Failure
of_kept (keeps.Text line faults.TooManyLines) = failures.ManyLines
of_kept (keeps.Text line fault) = failures.Unreadable (keeps.Text line fault)
of_kept (keeps.Input fault) = failures.Unreadable (keeps.Input fault)
of_kept (keeps.RulesDiffer run rules) = failures.OtherRules run rules RULES
of_kept (keeps.TreeDiffers row) = failures.OtherRows row
of_kept keeps.Full = failures.Full
of_kept keeps.OutOfMemory = failures.OutOfMemory

abbrev pub of_lines : LinesError → Failure
of_lines (lines.Bad line reason) = failures.BadLine line reason
of_lines lines.TooManyLines = failures.ManyLines
of_lines lines.Full = failures.Full
of_lines lines.OutOfMemory = failures.OutOfMemory

-- a path as text for people
abbrev pub shown_text : List ℕ → List ℕ
shown_text path = utf8_lossy (shown path)

-- The failure names the path and the reason. If there is no memory for the path, it says that
-- memory ran out.
abbrev pub IsAt : List ℕ → Reason → Failure → Type 0
IsAt path reason (failures.At text why) = (string_bytes text ≡ shown_text path) × (why ≡ reason)
IsAt path reason failures.OutOfMemory = Unit {0}
IsAt path reason other = ⊥

-- The same, but a link that leads to the path may be named too.
abbrev pub HasReason : Reason → Failure → Type 0
HasReason reason (failures.At text why) = why ≡ reason
HasReason reason failures.OutOfMemory = Unit {0}
HasReason reason other = ⊥

abbrev pub reason_of : Oddity → Reason
reason_of oddities.Directory = reasons.Directory
reason_of oddities.Special = reasons.Special
reason_of oddities.TooLarge = reasons.TooLarge
reason_of oddities.BadTarget = reasons.BadTarget

-- The failure is what the system reported last. If it reported nothing, memory ran out.
abbrev pub IsOfRoot : Failure → Type 0
IsOfRoot (failures.Root trouble) = Unit {0}
IsOfRoot failures.OutOfMemory = Unit {0}
IsOfRoot other = ⊥

-- Why nothing was captured.
abbrev pub IsOfCapture : CaptureError → Failure → Type 0
IsOfCapture (captures.Odd path oddity) failure = HasReason (reason_of oddity) failure
IsOfCapture (captures.NoDirectory path) failure = IsAt path reasons.NoDirectory failure
IsOfCapture captures.TooMany failure = failure ≡ failures.TooMany
IsOfCapture captures.BadShape failure = failure ≡ failures.BadShape
IsOfCapture captures.Failed failure = IsOfRoot failure
IsOfCapture captures.OutOfMemory failure = failure ≡ failures.OutOfMemory

-- Why the step at this path was not made.
abbrev pub IsOfStep : List ℕ → StepError → Failure → Type 0
IsOfStep path steps.Changed failure = IsAt path reasons.Changed failure
IsOfStep path steps.Odd failure = IsAt path reasons.Changed failure
IsOfStep path steps.Failed failure = IsOfRoot failure
IsOfStep path steps.OutOfMemory failure = failure ≡ failures.OutOfMemory

-- This number of all steps is made, and the others are not.
abbrev pub IsHalfDone : (made all : ℕ) → Failure → Type 0
IsHalfDone made all (failures.HalfDone n m path why) = (n ≡ made) × (m ≡ all)
IsHalfDone made all other = ⊥

-- If steps could not be reversed, the failure says how many are made.
abbrev pub SaysHowMany : ApplyError → (all : ℕ) → Failure → Type 0
SaysHowMany (applies.TakenBack step why) all failure = Unit {0}
SaysHowMany (applies.HalfDone step why made back) all failure = IsHalfDone made all failure

-- All steps were made, and may not last.
abbrev pub IsNotSettled : (all : ℕ) → Failure → Type 0
IsNotSettled all (failures.NotSettled trouble m) = m ≡ all
IsNotSettled all other = ⊥
