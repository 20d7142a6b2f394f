-- What a run has done, step by step and part by part.
use Rattle.std.proofs.Common.{◌≡◌, ◌+◌, ◌≤◌, ℕ, zero, List, [], ◌∷◌, ◌++◌, length, map as list_map, take, Option, Some, None, Err, refl, sym, ap, ◌∙◌, append_assoc, arith}
use Rattle.std.specs.Option.{option_map}
use Rattle.std.proofs.Math.Seq.{take-length}
use Rattle.link_tree.specs.declared.change.Change.{Change}
use Rattle.disk.specs.declared.error.DiskError.{DiskError}
use Rattle.disk.specs.declared.error.DiskError.TheVariants.{Failed, OutOfMemory}
use Rattle.disk.specs.Disks.{Held, of_disk, failures_after}
use Rattle.disk.specs.Steps.{failures_with}
use Rattle.disk.specs.Applied.{after_steps, WereMade}
use Rattle.disk.specs.Events.{Event, Promise, Commit, Withdraw, SyncHistory, Make, Clear, way_back, with_events}
use Rattle.disk.proofs.Doing.{with_with, makes-append}
use Rattle.kept_history.specs.Runs.{run_events, withdrawn_events, ending}
use Rattle.kept_history.specs.Recovery.{finishing}
use Rattle.kept_history.proofs.Fronts.{DoesFront, later_front, stops_first, stops_later, makes-take}

-- all steps are made
pub all_made : (old now new : Option Held) (steps : List Change) → new ≡ now → WereMade old now steps → (n : ℕ) × (new ≡ option_map (after_steps (take n steps)) old)
all_made old now new steps same made = (length steps, same ∙ made.1 ∙ ap (λ cs. option_map (after_steps cs) old) (sym (take-length steps)))

pub not_begun : (old new : Option Held) (steps : List Change) → new ≡ old → (n : ℕ) × (new ≡ option_map (after_steps (take n steps)) old)
not_begun None new steps same = (zero, same)
not_begun (Some h) new steps same = (zero, same)

-- all steps were taken back
pub none_left : (old new : Option Held) (steps : List Change) → new ≡ old → new ≡ option_map (after_steps (take zero steps)) old
none_left None new steps same = same
none_left (Some h) new steps same = same

-- Some front of these events was done, and the first of them was.
abbrev pub DoesBegin : (old new : Option (List Event)) → List Event → Type 0
DoesBegin old new events = (n : ℕ) × (1 ≤ n) × (new ≡ with_events old (take n events))

begins : (old mid new : Option (List Event)) (x : Event) (xs ys : List Event) → mid ≡ with_events old (x ∷ xs) → DoesFront mid new ys → DoesBegin old new (x ∷ (xs ++ ys))
begins old mid new x xs ys first h =
    let some : length xs + 1 ≡ length (x ∷ xs) = omega arith in
    (length (x ∷ xs) + h.0, omega (arith, some), later_front old mid new (x ∷ xs) ys h.0 first h.1)

-- the promise alone
pub only_promised : (old mid new : Option (List Event)) (text : List ℕ) (steps : List Change) → mid ≡ with_events old (Promise text ∷ []) → new ≡ mid → DoesBegin old new (run_events text steps)
only_promised old mid new text steps first same = (1, omega arith, same ∙ first)

pub promise_synced : (old mid new : Option (List Event)) (text : List ℕ) → mid ≡ with_events old (Promise text ∷ []) → new ≡ with_events mid (SyncHistory ∷ []) → new ≡ with_events old (Promise text ∷ SyncHistory ∷ [])
promise_synced old mid new text first h = h ∙ ap (λ o. with_events o (SyncHistory ∷ [])) first ∙ with_with old (Promise text ∷ []) (SyncHistory ∷ [])

module _ (old mid made new : Option (List Event)) (text : List ℕ) (is : mid ≡ with_events old (Promise text ∷ SyncHistory ∷ [])) (steps : List Change) (all : made ≡ with_events mid (list_map Make steps)) where
  -- the promise is there, and these steps are made
  behind : made ≡ with_events old (Promise text ∷ SyncHistory ∷ list_map Make steps)
  behind = all ∙ ap (λ o. with_events o (list_map Make steps)) is ∙ with_with old (Promise text ∷ SyncHistory ∷ []) (list_map Make steps)

  pub run_done : new ≡ with_events made (ending Commit steps) → new ≡ with_events old (run_events text steps)
  run_done h = h ∙ ap (λ o. with_events o (ending Commit steps)) behind ∙ with_with old (Promise text ∷ SyncHistory ∷ list_map Make steps) (ending Commit steps)

  pub run_stopped : DoesFront made new (ending Commit steps) → DoesBegin old new (run_events text steps)
  run_stopped h = begins old made new (Promise text) (SyncHistory ∷ list_map Make steps) (ending Commit steps) behind h

  abbrev backwards : List Event
  backwards = list_map Make (way_back steps) ++ ending Withdraw steps

  -- the steps, and then the way back
  there_and_back : list_map Make steps ++ backwards ≡ list_map Make (steps ++ way_back steps) ++ ending Withdraw steps
  there_and_back =
      sym (append_assoc (list_map Make steps) (list_map Make (way_back steps)) (ending Withdraw steps))
      ∙ ap (λ es. es ++ ending Withdraw steps) (sym (makes-append steps (way_back steps)))

  pub withdrawal_done : new ≡ with_events made backwards → new ≡ with_events old (withdrawn_events text steps)
  withdrawal_done h =
      h ∙ ap (λ o. with_events o backwards) behind
      ∙ with_with old (Promise text ∷ SyncHistory ∷ list_map Make steps) backwards
      ∙ ap (λ es. with_events old (Promise text ∷ SyncHistory ∷ es)) there_and_back

  pub withdrawal_stopped : DoesFront made new backwards → DoesBegin old new (withdrawn_events text steps)
  withdrawal_stopped h =
      let all = begins old made new (Promise text) (SyncHistory ∷ list_map Make steps) backwards behind h in
      (all.0, all.1, all.2 ∙ ap (λ es. with_events old (take all.0 (Promise text ∷ SyncHistory ∷ es))) there_and_back)

-- a failure of the disk counts as one of a step
pub counted_alike : (n : ℕ) (why : DiskError) → failures_after {A = Unit {0}} n (Err why) ≡ failures_with n (of_disk why)
counted_alike n Failed = refl
counted_alike n OutOfMemory = refl

module _ (old mid : Option (List Event)) (steps due : List Change) (begun : mid ≡ with_events old (SyncHistory ∷ Clear steps ∷ [])) where
  found_made : (made : Option (List Event)) → made ≡ with_events mid (list_map Make due) → made ≡ with_events old (SyncHistory ∷ Clear steps ∷ list_map Make due)
  found_made made all = all ∙ ap (λ o. with_events o (list_map Make due)) begun ∙ with_with old (SyncHistory ∷ Clear steps ∷ []) (list_map Make due)

  pub recovery_done : (made new : Option (List Event)) → made ≡ with_events mid (list_map Make due) → new ≡ with_events made (ending Commit steps) → new ≡ with_events old (finishing steps due)
  recovery_done made new all h =
      h ∙ ap (λ o. with_events o (ending Commit steps)) (found_made made all)
      ∙ with_with old (SyncHistory ∷ Clear steps ∷ list_map Make due) (ending Commit steps)

  -- a recovery stopped at its end
  pub recovery_ends : (made new : Option (List Event)) → made ≡ with_events mid (list_map Make due) → DoesFront made new (ending Commit steps) → DoesFront old new (finishing steps due)
  recovery_ends made new all h = stops_later old made new (SyncHistory ∷ Clear steps ∷ list_map Make due) (ending Commit steps) (found_made made all) h

  -- or at a step
  pub recovery_stops : (n : ℕ) (new : Option (List Event)) → new ≡ with_events mid (list_map Make (take n due)) → DoesFront old new (finishing steps due)
  recovery_stops n new h =
      stops_later old mid new (SyncHistory ∷ Clear steps ∷ []) (list_map Make due ++ ending Commit steps) begun
      (stops_first mid new (list_map Make due) (ending Commit steps) (n, h ∙ ap (with_events mid) (makes-take n due)))
