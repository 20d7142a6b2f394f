-- How a run on a root with a history ends if it stops.
use Rattle.std.specs.Prelude.{◌≡◌, ℕ, Bool, true, false, ◌||◌, ◌==◌, ◌⊎◌, String, Option, Some, None, Result, Ok, Err}
use Rattle.std.specs.declared.alloc.Global.{Global}
use Rattle.disk.specs.Disks.{of_disk}
use Rattle.disk.specs.declared.error.StepError.{StepError}
use Rattle.disk.specs.declared.error.StepError.TheVariants as steps
use Rattle.kept_history.specs.declared.running.RunError.{RunError}
use Rattle.kept_history.specs.declared.running.RunError.TheVariants as runs
use Rattle.real_roots.specs.declared.trouble.Trouble.{Trouble}
use Rattle.root_access.specs.Failures.{IsOfCapture, IsOfRoot}
use Rattle.root_access.specs.Statuses.{status_of}
use Rattle.root_access.specs.declared.failure.Failure.{Failure}
use Rattle.root_access.specs.declared.failure.Failure.TheVariants as failures
use Rattle.root_access.specs.declared.failure.Reason.TheVariants as reasons
use Rattle.root_histories.specs.declared.ending.Stop.{Stop}
use Rattle.root_histories.specs.declared.ending.Stop.TheVariants as stops

-- Something else is at the path. If there was no memory for the path, that is said.
abbrev pub changed_at : Option (String Global) → Failure
changed_at (Some path) = failures.At path reasons.Changed
changed_at None = failures.OutOfMemory

-- Why the step at this path was not made, if all is as it was.
abbrev pub IsOfStepAt : Option (String Global) → StepError → Failure → Type 0
IsOfStepAt path steps.Changed failure = failure ≡ changed_at path
IsOfStepAt path steps.Odd failure = failure ≡ changed_at path
IsOfStepAt path steps.Failed failure = IsOfRoot failure
IsOfStepAt path steps.OutOfMemory failure = failure ≡ failures.OutOfMemory

-- All was done, and may not last. If the system reported nothing, memory ran out.
abbrev pub IsUnsynced : Failure → Type 0
IsUnsynced (failures.Unsynced trouble) = Unit {0}
IsUnsynced failures.OutOfMemory = Unit {0}
IsUnsynced other = ⊥

-- All was reversed, and that may not last.
abbrev pub IsUnsyncedBack : Failure → Type 0
IsUnsyncedBack (failures.ReversedUnsynced trouble step) = Unit {0}
IsUnsyncedBack (failures.NotSettledBack trouble) = Unit {0}
IsUnsyncedBack failures.OutOfMemory = Unit {0}
IsUnsyncedBack other = ⊥

-- The next run finishes this one.
abbrev pub IsPromised : Failure → Type 0
IsPromised (failures.Promised why) = Unit {0}
IsPromised other = ⊥

-- Why a run was not made, or not wholly. If it was ending, all but the last sync was done.
abbrev pub IsOfRun : (ending : Bool) → RunError → Option (String Global) → Failure → Type 0
IsOfRun ending (runs.Refused step why) path failure = IsOfStepAt path why failure
IsOfRun ending (runs.Withdrawn step why) path failure = IsOfStepAt path why failure
IsOfRun ending (runs.NotPromised why) path failure = IsOfStepAt path (of_disk why) failure
IsOfRun true (runs.Unfinished why) path failure = IsUnsynced failure
IsOfRun true (runs.HalfWithdrawn step why back) path failure = IsUnsyncedBack failure
IsOfRun false (runs.Unfinished why) path failure = IsPromised failure
IsOfRun false (runs.HalfWithdrawn step why back) path failure = IsPromised failure

-- whether a run that failed so has changed nothing, by its status
abbrev pub is_of_nothing : Failure → Bool
is_of_nothing failure = status_of failure == 1 || status_of failure == 4

-- The failure of a run; or, if it has changed nothing, that a directory which was made for it can't
-- be removed.
abbrev pub IsAfter : Failure → Failure → Type 0
IsAfter failure result = (result ≡ failure) ⊎ ((is_of_nothing failure ≡ true) × ((trouble : Trouble) × (result ≡ failures.NotSettledBack trouble)))

-- Why a run stopped.
abbrev pub IsOfStop : (ending : Bool) → Stop → Failure → Type 0
IsOfStop ending (stops.Failed failure) result = IsAfter failure result
IsOfStop ending (stops.Uncaptured e) result = IsOfCapture e result
IsOfStop ending (stops.Unmade error path) result = IsOfRun ending error path result
IsOfStop true (stops.Unfinished error) result = IsUnsynced result
IsOfStop false (stops.Unfinished error) result = IsPromised result
IsOfStop ending stops.NotBegun result = IsOfRoot result

-- A run that didn't stop ends with its status, and any other with why it stopped.
abbrev pub Ends : {T : Type 0} → Result T Stop → Result T Failure → Type 0
Ends (Ok status) result = result ≡ Ok status
Ends (Err stop) (Ok status) = ⊥
Ends (Err stop) (Err failure) = (ending : Bool) × IsOfStop ending stop failure
