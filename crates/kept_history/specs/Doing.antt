-- What a call does to a disk with a kept history, also if it ends with an error. If it is not known
-- what was done to a disk, that is None, and then nothing is said of it.
use Rattle.std.specs.Prelude.{◌≡◌, ◌≤◌, ℕ, List, take, Option, Result, Ok, Err, IfSome}
use Rattle.std.specs.Option.{option_map}
use Rattle.link_tree.specs.declared.change.Change.{Change}
use Rattle.link_tree.specs.Trees.{Entries}
use Rattle.disk.specs.Disks.{Held, of_disk}
use Rattle.disk.specs.Steps.{failures_with}
use Rattle.disk.specs.Applied.{AllStand, AreDue, after_steps, Stops}
use Rattle.disk.specs.Events.{Event, with_events}
use Rattle.kept_history.specs.Runs.{run_events, withdrawn_events}
use Rattle.kept_history.specs.Laws.{NeverHalf}
use Rattle.kept_history.specs.declared.running.RunError.{RunError}
use Rattle.kept_history.specs.declared.running.RunError.TheVariants.{Refused, NotPromised, Withdrawn, Unfinished, HalfWithdrawn}

-- These events were done, or with an error the first n of them.
abbrev pub Does : {T E : Type 0} → (old new : Option (List Event)) → Result T E → List Event → Type 0
Does old new (Ok x) events = new ≡ with_events old events
Does old new (Err e) events = (n : ℕ) × (new ≡ with_events old (take n events))

-- What a run did: all of it; nothing; or all of a run whose first steps were taken back. Or it
-- ended in the middle of one or the other, after the first event.
abbrev pub Runs : (old new : Option (List Event)) → Result (Unit {0}) RunError → List ℕ → List Change → Type 0
Runs old new (Ok done) text steps = new ≡ with_events old (run_events text steps)
Runs old new (Err (Refused step why)) text steps = new ≡ old
Runs old new (Err (NotPromised why)) text steps = new ≡ old
Runs old new (Err (Withdrawn step why)) text steps = new ≡ with_events old (withdrawn_events text (take step steps))
Runs old new (Err (Unfinished why)) text steps =
    (n : ℕ) × (1 ≤ n) × (new ≡ with_events old (take n (run_events text steps)))
Runs old new (Err (HalfWithdrawn step why back)) text steps =
    (n : ℕ) × (1 ≤ n) × (new ≡ with_events old (take n (withdrawn_events text (take step steps))))

-- What a run left in the root, and why a step was not made. If it ended in the middle, the first n
-- steps are still in place.
abbrev pub Leaves : (old new : Option Held) → Result (Unit {0}) RunError → List Change → Type 0
Leaves old new (Ok done) steps = IfSome old (λ h. AreDue h steps) × (new ≡ option_map (after_steps steps) old)
Leaves old new (Err (Refused step why)) steps = (new ≡ old) × Stops old steps step why
Leaves old new (Err (NotPromised why)) steps = new ≡ old
Leaves old new (Err (Withdrawn step why)) steps = (new ≡ old) × Stops old steps step why
Leaves old new (Err (Unfinished why)) steps = (n : ℕ) × (new ≡ option_map (after_steps (take n steps)) old)
Leaves old new (Err (HalfWithdrawn step why back)) steps =
    (n : ℕ) × (n ≤ step) × (new ≡ option_map (after_steps (take n steps)) old) × Stops old steps step why

-- Once something is written, the old entry of each step was at its path before.
abbrev pub WereSeen : Option Held → Result (Unit {0}) RunError → List Change → Type 0
WereSeen held (Ok done) steps = AllStand held steps
WereSeen held (Err (Refused step why)) steps = Unit {0}
WereSeen held (Err (NotPromised why)) steps = Unit {0}
WereSeen held (Err (Withdrawn step why)) steps = AllStand held steps
WereSeen held (Err (Unfinished why)) steps = AllStand held steps
WereSeen held (Err (HalfWithdrawn step why back)) steps = AllStand held steps

-- Each failure that ended a run is counted, and there is no other.
abbrev pub failures_after_run : ℕ → Result (Unit {0}) RunError → ℕ
failures_after_run old (Ok done) = old
failures_after_run old (Err (Refused step why)) = failures_with old why
failures_after_run old (Err (NotPromised why)) = failures_with old (of_disk why)
failures_after_run old (Err (Withdrawn step why)) = failures_with old why
failures_after_run old (Err (Unfinished why)) = failures_with old (of_disk why)
failures_after_run old (Err (HalfWithdrawn step why back)) = failures_with (failures_with old why) back

-- Whatever a call did, no failure from its beginning on leaves a half, if the history has the old
-- tree and the text the new one.
abbrev pub NeverHalfSince : (old new : Option (List Event)) → (before after : Entries) → List ℕ → Type 0
NeverHalfSince old new before after text =
    (replay : List ℕ → Entries) (history : List ℕ) → replay history ≡ before → replay text ≡ after
    → (events : List Event) × (new ≡ with_events old events) × NeverHalf replay history text before events
