-- Whatever a run did, no failure leaves a half.
use Rattle.std.proofs.Common.{◌≡◌, ℕ, List, [], take, Option, Result, Ok, Err, sym, subst, ◌∙◌}
use Rattle.link_tree.specs.Trees.{Entries}
use Rattle.tree_steps.specs.Steps.{steps_between}
use Rattle.disk.specs.Events.{Event, with_events}
use Rattle.disk.proofs.Doing.{with_none}
use Rattle.kept_history.specs.Runs.{run_events, withdrawn_events}
use Rattle.kept_history.specs.Laws.{NeverHalf}
use Rattle.kept_history.specs.Doing.{Runs, NeverHalfSince}
use Rattle.kept_history.specs.declared.running.RunError.{RunError}
use Rattle.kept_history.specs.declared.running.RunError.TheVariants.{Refused, NotPromised, Withdrawn, Unfinished, HalfWithdrawn}
use Rattle.kept_history.proofs.Lasting.{runs_are_whole, run_front, withdrawal, withdrawal_front, nothing_whole}

module _ (replay : List ℕ → Entries) (history text : List ℕ) (old new : Option (List Event)) where
  -- some events were done, after which nothing is left half
  abbrev IsWholeSince : Type 0
  IsWholeSince = (events : List Event) × (new ≡ with_events old events) × NeverHalf replay history text (replay history) events

  nothing_done : new ≡ old → IsWholeSince
  nothing_done same = ([], same ∙ sym (with_none old), nothing_whole replay history text)

  whole_since : (r : Result (Unit {0}) RunError) → Runs old new r text (steps_between (replay history) (replay text)) → IsWholeSince
  whole_since (Ok done) h = (run_events text (steps_between (replay history) (replay text)), h, runs_are_whole replay history text)
  whole_since (Err (Refused step why)) h = nothing_done h
  whole_since (Err (NotPromised why)) h = nothing_done h
  whole_since (Err (Withdrawn step why)) h =
      (withdrawn_events text (take step (steps_between (replay history) (replay text))), h, withdrawal replay history text step)
  whole_since (Err (Unfinished why)) h =
      (take h.0 (run_events text (steps_between (replay history) (replay text))), h.2, run_front replay history text h.0)
  whole_since (Err (HalfWithdrawn step why back)) h =
      (take h.0 (withdrawn_events text (take step (steps_between (replay history) (replay text)))), h.2, withdrawal_front replay history text step h.0)

pub never_half_since : (old new : Option (List Event)) (before after : Entries) (text : List ℕ) (r : Result (Unit {0}) RunError) → Runs old new r text (steps_between before after) → NeverHalfSince old new before after text
never_half_since old new before after text r h replay history is_before is_after =
    let steps = subst (λ t. Runs old new r text (steps_between (replay history) t)) (sym is_after) (subst (λ t. Runs old new r text (steps_between t after)) (sym is_before) h) in
    let all = whole_since replay history text old new r steps in
    (all.0, all.1, subst (λ t. NeverHalf replay history text t all.0) is_before all.2)
