-- Runs without steps, which write rows of what others did.
use Rattle.std.proofs.Common.{◌≡◌, ℕ, zero, suc, List, [], take, Option, Result, Ok, Err, sym, subst, ◌∙◌}
use Rattle.link_tree.specs.Trees.{Entries}
use Rattle.disk.specs.Disks.{Held}
use Rattle.disk.specs.Applied.{Stops}
use Rattle.disk.specs.declared.error.StepError.{StepError}
use Rattle.disk.specs.Events.{Event, with_events}
use Rattle.disk.proofs.Doing.{with_none}
use Rattle.kept_history.specs.Roots.{KeptRoot}
use Rattle.kept_history.specs.Runs.{run_events}
use Rattle.kept_history.specs.Laws.{NeverHalf}
use Rattle.kept_history.specs.Doing.{Runs, Leaves}
use Rattle.kept_history.specs.Recovery.{MayReach, Killed, KilledAgain, PowerFailed}
use Rattle.kept_history.specs.declared.running.RunError.{RunError}
use Rattle.kept_history.specs.declared.running.RunError.TheVariants.{Refused, NotPromised, Withdrawn, Unfinished, HalfWithdrawn}
use Rattle.kept_history.proofs.Fronts.{take_take}
use Rattle.kept_history.proofs.Lasting.{writes_are_whole}

-- what a front of these events may lead to, all of them may
front_reach : (replay : List ℕ → Entries) (root : KeptRoot) (events : List Event) (k : ℕ) (base : KeptRoot) (since : List Event) → MayReach replay root (take k events) base since → MayReach replay root events base since
front_reach replay root events k base since (Killed n) = let all = take_take n k events in subst (λ es. MayReach replay root events root es) (sym all.1) (Killed all.0)
front_reach replay root events k base since (KilledAgain same before n reach) = KilledAgain base before n (front_reach replay root events k base before reach)
front_reach replay root events k base since (PowerFailed before same earlier reach h) = PowerFailed before base earlier (front_reach replay root events k before earlier reach) h

no_stop : {P : Type 0} (held : Option Held) (i : ℕ) (why : StepError) → Stops held [] i why → P
no_stop held zero why h = let here = h.1 in absurd (cc)
no_stop held (suc i) why h = let here = h.1 in absurd (cc)

module _ (replay : List ℕ → Entries) (history text : List ℕ) (held : Option Held) (old new : Option (List Event)) (after : Option Held) where
  abbrev pub IsWritten : Type 0
  IsWritten = (events : List Event) × (new ≡ with_events old events) × NeverHalf replay history text (replay text) events

  front_written : (k : ℕ) → new ≡ with_events old (take k (run_events text [])) → IsWritten
  front_written k h =
      (take k (run_events text []), h, λ base since reach. writes_are_whole replay history text base since (front_reach replay _ (run_events text []) k base since reach))

  nothing_written : new ≡ old → IsWritten
  nothing_written same = front_written zero (same ∙ sym (with_none old))

  pub written : (r : Result (Unit {0}) RunError) → Runs old new r text [] → Leaves held after r [] → IsWritten
  written (Ok done) h left = (run_events text [], h, writes_are_whole replay history text)
  written (Err (Refused step why)) h left = nothing_written h
  written (Err (NotPromised why)) h left = nothing_written h
  written (Err (Withdrawn step why)) h left = no_stop held step why left.1
  written (Err (Unfinished why)) h left = front_written h.0 h.2
  written (Err (HalfWithdrawn step why back)) h left = no_stop held step why left.3
