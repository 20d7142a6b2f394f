-- How a run on a root with a history reaches the disk.
use Rattle.std.specs.Prelude.{◌≡◌, ℕ, Bool, true, false, if◌then◌else◌, Option, Some, None}
use Rattle.kept_history.specs.declared.running.RunError.{RunError}
use Rattle.kept_history.specs.declared.running.RunError.TheVariants as runs
use Rattle.kept_runs.specs.declared.keeping.KeepIf.{KeepIf}
use Rattle.kept_runs.specs.declared.keeping.KeepIf.TheVariants as keeps
use Rattle.root_access.specs.declared.printing.Done.{Done}
use Rattle.root_access.specs.declared.printing.Done.TheVariants as dones
use Rattle.root_histories.specs.declared.ending.Stop.{Stop}
use Rattle.root_histories.specs.declared.ending.Stop.TheVariants as stops
use Rattle.root_runs.specs.declared.plan.Plan.{Plan}
use Rattle.root_runs.specs.declared.plan.Plan.TheVariants as plans

-- the step that failed, if one did
abbrev pub failed_step : RunError → Option ℕ
failed_step (runs.Refused step why) = Some step
failed_step (runs.Withdrawn step why) = Some step
failed_step (runs.HalfWithdrawn step why back) = Some step
failed_step (runs.NotPromised why) = None
failed_step (runs.Unfinished why) = None

-- Why a history was not written before the calls. It has no step, so none is named.
abbrev pub IsOfWriting : Stop → Type 0
IsOfWriting stops.NotBegun = Unit {0}
IsOfWriting (stops.Unmade error path) = path ≡ None
IsOfWriting other = ⊥

-- Why the steps of a run were not made.
abbrev pub IsOfMaking : Stop → Type 0
IsOfMaking (stops.Unmade error path) = Unit {0}
IsOfMaking other = ⊥

-- With `--keep-going` the accepted calls are kept, and otherwise all or none.
abbrev pub keep_if : (keep_going : Bool) → KeepIf
keep_if keep_going = if keep_going then keeps.Accepted else keeps.NoneRefused

-- what is done with a run that is kept or not
abbrev pub done_with : Plan → (is_kept : Bool) → Done
done_with plans.Make true = dones.Changes
done_with plan is_kept = dones.Nothing
