-- The laws of kept histories.
use Rattle.std.proofs.Common.{◌≡◌, ℕ, zero, suc, true, false, List, [], ◌∷◌, ◌++◌, map as list_map, take, refl, sym, ap, ◌∙◌, subst, inl, inr, arith}
use Rattle.std.specs.Prelude.{◌||◌}
use Rattle.std.specs.List.{list_any}
use Rattle.std.proofs.lemmas.Bool.{true≢false}
use Rattle.link_tree.specs.declared.change.Change.{Change}
use Rattle.link_tree.specs.Trees.{Entries, after_changes}
use Rattle.tree_steps.specs.Steps.{steps_between}
use Rattle.tree_steps.proofs.Turns.{steps_from, steps_to, steps_lead}
use Rattle.disk.specs.Events.{Event, Promise, Commit, Withdraw, SyncHistory, Make, Clear, way_back}
use Rattle.kept_history.specs.Roots.{KeptRoot, at_rest, after, after_all, syncs_history, has_path, syncs_path, MayLeave}
use Rattle.kept_history.specs.Runs.{run_events, withdrawn_events, ending}
use Rattle.kept_history.specs.Recovery.{due_steps, finishing, recovery, recovered, MayReach, Killed, KilledAgain, PowerFailed}
use Rattle.kept_history.specs.Laws.{Mends, NeverHalf, RunsAreWhole, WritesAreWhole, WithdrawalsAreWhole, Acknowledged, WithdrawnLasts, Promised, RecoveryMends, AlwaysAtRest, Begun, Ran}
use Rattle.kept_history.proofs.Mending.{mends}
use Rattle.kept_history.proofs.Fronts.{take_take}
use Rattle.kept_history.proofs.Staying.{StayOnTheWay, AreCovered, covered_all, covered-append, covered-back, stay-take, stay-append, stay-back, back_again}
use Rattle.kept_history.proofs.Crashes.{any_makes, makes, all_ended, covered_synced}
use Rattle.kept_history.proofs.Losses.{SameTexts, Kept, nothing_lost, in_two}
use Rattle.kept_history.proofs.Pending.{IsPending, IsOpen, all_steps, all_stay, same_root, after_makes, of_commit, of_withdraw, made_and_ended, made_lasts, synced_only, behind_sync, behind_clear, none_some, finishes, failed_after, committed_new, started, run_open, withdrawn_open, pending_recovered, open_recovered, pending_recovery, pending_left, entries_left, due_open, due_covered}

module _ (replay : List ℕ → Entries) (old new : List ℕ) where
  module _ (entries : Entries) (since : List Event) (base : KeptRoot) where
    -- what the next process finds
    abbrev seen : KeptRoot
    seen = after_all since base

    -- a failure of a recovery that found a run pending
    pending_open : (n : ℕ) (v left : KeptRoot) → IsPending replay old new seen → IsOpen replay old new entries v
        → MayLeave v (take n (finishing (all_steps replay old new) (due_steps (replay old) (replay new) seen.entries))) left
        → Kept since (take n (finishing (all_steps replay old new) (due_steps (replay old) (replay new) seen.entries))) base v → IsOpen replay old new entries left
    pending_open zero v left here may h kept = subst (IsOpen replay old new entries) (sym h) may
    pending_open (suc zero) v left here may h kept = subst (IsOpen replay old new entries) (sym (behind_sync [] v left h)) may
    pending_open (suc (suc n)) v left here may h kept =
        let steps : List Change = all_steps replay old new in
        let rest : List Event = take n (made_and_ended steps (due_steps (replay old) (replay new) seen.entries)) in
        let pending = pending_left replay old new entries seen v here may (kept.texts refl) in
        due_open replay old new entries n seen v left pending here.way
        (λ synced. entries_left replay old new since _ base v here pending kept synced)
        (behind_clear steps rest v left (behind_sync (Clear steps ∷ rest) v left h))

    -- a failure of a recovery leaves no more than what it found
    recovery_open : (n : ℕ) (v left : KeptRoot) → IsOpen replay old new entries seen → IsOpen replay old new entries v → MayLeave v (take n (recovery replay seen)) left
        → Kept since (take n (recovery replay seen)) base v → IsOpen replay old new entries left
    recovery_open n v left (inl same) may h kept =
        subst (IsOpen replay old new entries) (sym (synced_only n v left (subst (λ w. MayLeave v (take n (recovery replay w)) left) same h))) may
    recovery_open n v left (inr (inl here)) may h kept =
        pending_open n v left here may (subst (λ es. MayLeave v (take n es) left) (pending_recovery replay old new seen here) h)
        (subst (λ es. Kept since (take n es) base v) (pending_recovery replay old new seen here) kept)
    recovery_open n v left (inr (inr same)) may h kept =
        subst (IsOpen replay old new entries) (sym (synced_only n v left (subst (λ w. MayLeave v (take n (recovery replay w)) left) same h))) may

    module _ (alike : old ≡ new → entries ≡ replay new) where
      -- at rest, with the texts synced
      old_left : (v : KeptRoot) → IsOpen replay old new entries v → SameTexts v (at_rest old entries) → v ≡ at_rest old entries
      old_left v (inl same) texts = same
      old_left v (inr (inl pending)) texts = none_some v.next new texts.1 pending.next
      old_left v (inr (inr same)) texts =
          let equal : old ≡ new = sym texts.0 ∙ ap (λ w. w.history) same in
          same ∙ (λ i. at_rest (sym equal i) (sym (alike equal) i))

      new_left : (v : KeptRoot) → IsOpen replay old new entries v → SameTexts v (at_rest new (replay new)) → v ≡ at_rest new (replay new)
      new_left v (inl same) texts =
          let equal : old ≡ new = sym (ap (λ w. w.history) same) ∙ texts.0 in
          same ∙ (λ i. at_rest (equal i) (alike equal i))
      new_left v (inr (inl pending)) texts = none_some v.next new texts.1 pending.next
      new_left v (inr (inr same)) texts = same

      -- what a recovery leaves lasts
      recovery_lasts : (v left : KeptRoot) → IsOpen replay old new entries seen → IsOpen replay old new entries v → MayLeave v (recovery replay seen) left → Kept since (recovery replay seen) base v → left ≡ recovered replay seen
      recovery_lasts v left (inl same) may h kept =
          let rest = subst (λ w. MayLeave v (recovery replay w) left) same h in
          let texts = subst (λ w. list_any syncs_history (recovery replay w) ≡ true → SameTexts v w) same kept.texts refl in
          synced_only (suc zero) v left rest ∙ old_left v may texts ∙ sym (ap (recovered replay) same)
      recovery_lasts v left (inr (inr same)) may h kept =
          let rest = subst (λ w. MayLeave v (recovery replay w) left) same h in
          let texts = subst (λ w. list_any syncs_history (recovery replay w) ≡ true → SameTexts v w) same kept.texts refl in
          synced_only (suc zero) v left rest ∙ new_left v may texts ∙ sym (ap (recovered replay) same)
      recovery_lasts v left (inr (inl here)) may h kept =
          let steps : List Change = all_steps replay old new in
          let due : List Change = due_steps (replay old) (replay new) seen.entries in
          let is = pending_recovery replay old new seen here in
          let all : Kept since (finishing steps due) base v = subst (λ es. Kept since es base v) is kept in
          let texts = all.texts refl in
          let synced : (path : List ℕ) → has_path path steps ≡ true → list_any (syncs_path path) (finishing steps due) ≡ true =
          λ path has. any_makes path due (ending Commit steps) ∙ ap (λ b. b || false) has in
          let same = entries_left replay old new since (finishing steps due) base v here (pending_left replay old new entries seen v here may texts) all synced in
          made_lasts steps due v left (due_covered replay old new seen.entries) (behind_clear steps (made_and_ended steps due) v left (behind_sync (Clear steps ∷ made_and_ended steps due) v left (subst (λ es. MayLeave v es left) is h)))
          ∙ ap (after_all (made_and_ended steps due)) (same_root v seen texts.0 texts.1 same)
          ∙ sym (ap (λ es. after_all es seen) is)

  -- whatever fails, all that may be left is open
  always_open : (entries : Entries) (events : List Event) → ((n : ℕ) (left : KeptRoot) → MayLeave (at_rest old entries) (take n events) left → IsOpen replay old new entries left)
      → (base : KeptRoot) (since : List Event) → MayReach replay (at_rest old entries) events base since → (left : KeptRoot) → MayLeave base since left → IsOpen replay old new entries left
  always_open entries events first base since (Killed n) left h = first n left h
  always_open entries events first base since (KilledAgain same before n reach) left h =
      let may = always_open entries events first base before reach in
      let two = in_two before (take n (recovery replay (after_all before base))) base left h in
      recovery_open entries before base n two.0 left (may (after_all before base) (nothing_lost before base)) (may two.0 two.1) two.2 two.3
  always_open entries events first base since (PowerFailed before same events_before reach h) left now =
      subst (IsOpen replay old new entries) (sym now) (always_open entries events first before events_before reach base h)

  -- so no failure leaves a half
  pub whole : (entries : Entries) (events : List Event) → (old ≡ new → entries ≡ replay new) → ((n : ℕ) (left : KeptRoot) → MayLeave (at_rest old entries) (take n events) left → IsOpen replay old new entries left) → NeverHalf replay old new entries events
  whole entries events alike first base since reach =
      let may = always_open entries events first base since reach in
      let now = may (after_all since base) (nothing_lost since base) in (
        open_recovered replay old new entries (after_all since base) now,
        λ left h.
            let two = in_two since (recovery replay (after_all since base)) base left h in
            recovery_lasts entries since base alike two.0 left now (may two.0 two.1) two.2 two.3,
      )

  -- a run that stops on the way is no worse
  front_whole : (entries : Entries) (events : List Event) (k : ℕ) → (old ≡ new → entries ≡ replay new) → ((n : ℕ) (left : KeptRoot) → MayLeave (at_rest old entries) (take n events) left → IsOpen replay old new entries left)
      → NeverHalf replay old new entries (take k events)
  front_whole entries events k alike first =
      whole entries (take k events) alike (λ n left h. let all = take_take n k events in first all.0 left (subst (λ es. MayLeave (at_rest old entries) es left) all.1 h))

  run_first : (n : ℕ) (left : KeptRoot) → MayLeave (at_rest old (replay old)) (take n (run_events new (all_steps replay old new))) left → IsOpen replay old new (replay old) left
  run_first n left h = run_open replay old new (replay old) n (all_steps replay old new) left (λ path. inl refl) (all_stay replay old new) (steps_to (replay old) (replay new)) h

  pub run_front : (k : ℕ) → NeverHalf replay old new (replay old) (take k (run_events new (steps_between (replay old) (replay new))))
  run_front k = front_whole (replay old) (run_events new (all_steps replay old new)) k (λ equal. ap replay equal) run_first

  module _ (made : ℕ) where
    abbrev some_steps : List Change
    some_steps = take made (steps_between (replay old) (replay new))

    abbrev there_and_back : List Change
    there_and_back = some_steps ++ way_back some_steps

    back_stays : StayOnTheWay (replay old) (replay new) there_and_back
    back_stays =
        stay-append (replay old) (replay new) some_steps (way_back some_steps) (stay-take (replay old) (replay new) made (all_steps replay old new) (all_stay replay old new))
        (stay-back (replay old) (replay new) made (all_steps replay old new) (steps_from (replay old) (replay new)))

    pub back_covered : AreCovered some_steps there_and_back
    back_covered = covered-append some_steps some_steps (way_back some_steps) (covered_all some_steps) (covered-back some_steps some_steps (covered_all some_steps))

    pub back_is : after_changes there_and_back (replay old) ≡ replay old
    back_is = back_again (replay old) (replay new) made (all_steps replay old new) (replay old) (steps_lead (replay old) (replay new))

    withdrawn_first : (n : ℕ) (left : KeptRoot) → MayLeave (at_rest old (replay old)) (take n (withdrawn_events new some_steps)) left → IsOpen replay old new (replay old) left
    withdrawn_first n left h = withdrawn_open replay old new (replay old) n some_steps there_and_back left (λ path. inl refl) back_covered back_stays back_is h

    pub withdrawal : NeverHalf replay old new (replay old) (withdrawn_events new some_steps)
    withdrawal = whole (replay old) (withdrawn_events new some_steps) (λ equal. ap replay equal) withdrawn_first

    pub withdrawal_front : (k : ℕ) → NeverHalf replay old new (replay old) (take k (withdrawn_events new some_steps))
    withdrawal_front k = front_whole (replay old) (withdrawn_events new some_steps) k (λ equal. ap replay equal) withdrawn_first

  pub nothing_whole : NeverHalf replay old new (replay old) []
  nothing_whole = run_front zero

pub runs_are_whole : RunsAreWhole
runs_are_whole replay old new = whole replay old new (replay old) (run_events new (all_steps replay old new)) (λ equal. ap replay equal) (run_first replay old new)

pub writes_are_whole : WritesAreWhole
writes_are_whole replay old new =
    whole replay old new (replay new) (run_events new []) (λ equal. refl)
    (λ n left h. run_open replay old new (replay new) n [] left (λ path. inr refl) tt refl h)

pub withdrawals_are_whole : WithdrawalsAreWhole
withdrawals_are_whole replay old new made = withdrawal replay old new made

-- what a whole run leaves
ran : (replay : List ℕ → Entries) (old new : List ℕ) → after_all (made_and_ended (all_steps replay old new) (all_steps replay old new)) (after (Promise new) (at_rest old (replay old))) ≡ at_rest new (replay new)
ran replay old new =
    let steps : List Change = all_steps replay old new in
    after_makes steps (ending Commit steps) (after (Promise new) (at_rest old (replay old))) ∙ ap (at_rest new) (steps_to (replay old) (replay new))

pub acknowledged : Acknowledged
acknowledged replay old new left (inl h) =
    let steps : List Change = all_steps replay old new in
    let w : KeptRoot = after (Promise new) (at_rest old (replay old)) in
    made_lasts steps steps w left (covered_all steps) (behind_sync (made_and_ended steps steps) w left h) ∙ ran replay old new
acknowledged replay old new left (inr h) = absurd (true≢false h.0)

pub withdrawn_lasts : WithdrawnLasts
withdrawn_lasts replay old new made left (inl h) =
    let some : List Change = take made (steps_between (replay old) (replay new)) in
    let cs : List Change = some ++ way_back some in
    let w : KeptRoot = after (Promise new) (at_rest old (replay old)) in
    let all = makes w.entries w.entries cs (ending Withdraw some) w left (behind_sync (list_map Make cs ++ ending Withdraw some) w left h) in
    let entries : all.0.entries ≡ after_changes cs w.entries = all.3 (covered_synced some cs (Withdraw ∷ SyncHistory ∷ []) (back_covered replay old new made)) in
    all_ended Withdraw of_withdraw some all.0 left all.2 ∙ (λ i. at_rest (all.1.history i) ((entries ∙ back_is replay old new made) i))
withdrawn_lasts replay old new made left (inr h) = absurd (true≢false h.0)

pub always_at_rest : AlwaysAtRest
always_at_rest replay w (Begun text) = (text, refl)
always_at_rest replay w (Ran text new base since before reach) = elim (runs_are_whole replay text new base since reach).0 [
  | inl same ↦ (text, same)
  | inr same ↦ (new, same)
]

pub promised : Promised
promised replay old new zero left late h = absurd (omega (arith, late))
promised replay old new (suc zero) left late h = absurd (omega (arith, late))
promised replay old new (suc (suc n)) left late (inl h) =
    let steps : List Change = all_steps replay old new in
    let w : KeptRoot = after (Promise new) (at_rest old (replay old)) in
    elim (failed_after replay old new Commit of_commit steps n steps w left (started replay old new (replay old) (λ path. inl refl)) (covered_all steps) (all_stay replay old new) (behind_sync (take n (made_and_ended steps steps)) w left h)) [
      | inl pending ↦ pending_recovered replay old new left pending
      | inr end ↦ ap (recovered replay) (committed_new replay old new steps (take n (made_and_ended steps steps)) steps w left (steps_to (replay old) (replay new)) end)
    ]
promised replay old new (suc (suc n)) left late (inr h) = absurd (true≢false h.0)

pub recovery_mends : RecoveryMends
recovery_mends replay w text next =
    let is = finishes replay w text next in (
      ap (λ v. v.history) is,
      ap (λ v. v.next) is,
      subst (λ v. Mends (replay w.history) (replay text) w.entries v.entries) (sym is) (mends (replay w.history) (replay text) w.entries),
    )
