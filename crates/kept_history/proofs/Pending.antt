-- A run that is promised and not ended, and what failures leave of it.
use Rattle.std.proofs.Common.{◌≡◌, ℕ, zero, suc, true, List, [], ◌∷◌, ◌++◌, map as list_map, take, Option, Some, None, refl, sym, ap, ◌∙◌, subst, inl, inr}
use Rattle.std.specs.Prelude.{◌⊎◌, ◌||◌}
use Rattle.std.specs.List.{list_any}
use Rattle.std.proofs.lemmas.Bool.{true≢false}
use Rattle.link_tree.specs.declared.change.Change.{Change}
use Rattle.link_tree.specs.Trees.{Entries, after_changes}
use Rattle.tree_steps.specs.Steps.{steps_between, IsOnTheWay}
use Rattle.tree_steps.proofs.Turns.{steps_lead}
use Rattle.disk.specs.Events.{Event, Promise, Commit, Withdraw, SyncHistory, Make, Clear}
use Rattle.kept_history.specs.Roots.{KeptRoot, at_rest, committed, after, after_all, syncs_history, has_path, syncs_path, is_synced, MayLeave}
use Rattle.kept_history.specs.Runs.{run_events, ending}
use Rattle.kept_history.specs.Recovery.{is_due, due_steps, finishing, recovery_of, recovery, recovered}
use Rattle.kept_history.specs.Laws.{IsEither}
use Rattle.kept_history.proofs.Mending.{mended_way, same_on_way}
use Rattle.kept_history.proofs.Staying.{StayOnTheWay, AreCovered, covered_all, covered-filter, leading_stay, stay-filter}
use Rattle.kept_history.proofs.Crashes.{SomeMade, any_makes, makes, up_to, ended, all_ended, covered_synced, AllSynced}
use Rattle.kept_history.proofs.Losses.{SameTexts, Kept}
use Rattle.kept_history.proofs.Staying.{stay-take}

-- what there is when some steps were made
abbrev pub with_entries : KeptRoot → Entries → KeptRoot
with_entries w entries = record { history = w.history; next = w.next; entries = entries }

pub same_root : (v w : KeptRoot) → v.history ≡ w.history → v.next ≡ w.next → v.entries ≡ w.entries → v ≡ w
same_root v w history next entries = λ i. record { history = history i; next = next i; entries = entries i }

pub after_makes : (cs : List Change) (later : List Event) (w : KeptRoot) → after_all (list_map Make cs ++ later) w ≡ after_all later (with_entries w (after_changes cs w.entries))
after_makes [] later w = refl
after_makes (c ∷ cs) later w = after_makes cs later (after (Make c) w)

pub of_commit : (later : List Event) → is_synced Commit later ≡ list_any syncs_history later
of_commit later = refl

pub of_withdraw : (later : List Event) → is_synced Withdraw later ≡ list_any syncs_history later
of_withdraw later = refl

-- steps, and then the new history
abbrev pub made_and_ended : (steps cs : List Change) → List Event
made_and_ended steps cs = list_map Make cs ++ ending Commit steps

-- what is ended lasts
pub made_lasts : (steps cs : List Change) (w left : KeptRoot) → AreCovered steps cs → MayLeave w (made_and_ended steps cs) left → left ≡ after_all (made_and_ended steps cs) w
made_lasts steps cs w left covered h =
    let made = makes w.entries w.entries cs (ending Commit steps) w left h in
    let all : made.0.entries ≡ after_changes cs w.entries = made.3 (covered_synced steps cs (Commit ∷ SyncHistory ∷ []) covered) in
    let same : made.0 ≡ with_entries w (after_changes cs w.entries) = same_root made.0 (with_entries w (after_changes cs w.entries)) made.1.history made.1.next all in
    all_ended Commit of_commit steps made.0 left made.2 ∙ ap (after Commit) same ∙ sym (after_makes cs (ending Commit steps) w)

-- a sync of the history changes nothing
pub synced_only : (n : ℕ) (v left : KeptRoot) → MayLeave v (take n (SyncHistory ∷ [])) left → left ≡ v
synced_only zero v left h = h
synced_only (suc zero) v left (inl h) = h
synced_only (suc zero) v left (inr h) = h.1
synced_only (suc (suc n)) v left (inl h) = h
synced_only (suc (suc n)) v left (inr h) = h.1

pub behind_sync : (events : List Event) (v left : KeptRoot) → MayLeave v (SyncHistory ∷ events) left → MayLeave v events left
behind_sync events v left (inl h) = h
behind_sync events v left (inr h) = h.1

pub behind_clear : (steps : List Change) (events : List Event) (v left : KeptRoot) → MayLeave v (Clear steps ∷ events) left → MayLeave v events left
behind_clear steps events v left (inl h) = h
behind_clear steps events v left (inr h) = h.1

pub none_some : {P : Type 0} (o : Option (List ℕ)) (text : List ℕ) → o ≡ None → o ≡ Some text → P
none_some o text none some = cc

module _ (replay : List ℕ → Entries) where
  pub finishes : (w : KeptRoot) (text : List ℕ) → w.next ≡ Some text → recovered replay w ≡ at_rest text (after_changes (due_steps (replay w.history) (replay text) w.entries) w.entries)
  finishes w text next =
      let steps = steps_between (replay w.history) (replay text) in
      let due = due_steps (replay w.history) (replay text) w.entries in
      ap (λ n. after_all (recovery_of replay w n) w) next
      ∙ after_makes due (ending Commit steps) w
      ∙ ap (committed (with_entries w (after_changes due w.entries))) next

  module _ (old new : List ℕ) where
    -- the steps from the one tree to the other
    abbrev pub all_steps : List Change
    all_steps = steps_between (replay old) (replay new)

    pub all_stay : StayOnTheWay (replay old) (replay new) all_steps
    all_stay = leading_stay (replay old) (replay new) (replay old) all_steps (steps_lead (replay old) (replay new))

    -- the new history is promised, and the root is on the way
    pub record IsPending (w : KeptRoot) : Type 0 where
      pub history : w.history ≡ old
      pub next : w.next ≡ Some new
      pub way : IsOnTheWay (replay old) (replay new) w.entries

    still_pending : (cs : List Change) (w v : KeptRoot) → IsPending w → StayOnTheWay (replay old) (replay new) cs → SomeMade (replay old) (replay new) cs w v → IsPending v
    still_pending cs w v here stay made = record { history = made.history ∙ here.history; next = made.next ∙ here.next; way = made.way stay here.way }

    -- A failure leaves what was there before the run, or the promise with a root on the way, or the new
    -- history with the new tree.
    abbrev pub IsOpen : Entries → KeptRoot → Type 0
    IsOpen entries left = (left ≡ at_rest old entries) ⊎ IsPending left ⊎ (left ≡ at_rest new (replay new))

    -- All steps are made and synced, and the history has changed behind them.
    pub record IsEnded (e : Event) (steps : List Change) (events : List Event) (cs : List Change) (w left : KeptRoot) : Type 0 where
      pub before : KeptRoot
      pub pending : IsPending before
      pub entries : before.entries ≡ after_changes cs w.entries
      pub changed : left ≡ after e before
      pub synced : (path : List ℕ) → has_path path steps ≡ true → list_any (syncs_path path) events ≡ true

    module _ (e : Event) (of_history : (later : List Event) → is_synced e later ≡ list_any syncs_history later) (steps : List Change) where
      -- after the promise, a failure leaves it pending, or comes at the end
      pub failed_after : (n : ℕ) (cs : List Change) (w left : KeptRoot) → IsPending w → AreCovered steps cs → StayOnTheWay (replay old) (replay new) cs
          → MayLeave w (take n (list_map Make cs ++ ending e steps)) left → IsPending left ⊎ IsEnded e steps (take n (list_map Make cs ++ ending e steps)) cs w left
      failed_after n cs w left here covered stay h = elim (up_to n cs (ending e steps)) [
        | inl some ↦ (
            let made = makes (replay old) (replay new) (take some.0 cs) [] w left (subst (λ es. MayLeave w es left) some.1 h) in
            inl (subst IsPending (sym made.2) (still_pending (take some.0 cs) w made.0 here (stay-take (replay old) (replay new) some.0 cs stay) made.1)))
        | inr all ↦ (
            let last : List Event = take all.0 (ending e steps) in
            let made = makes (replay old) (replay new) cs last w left (subst (λ es. MayLeave w es left) all.1 h) in
            let pending : IsPending made.0 = still_pending cs w made.0 here stay made.1 in
            elim (ended e of_history steps all.0 made.0 left made.2) [
              | inl same ↦ inl (subst IsPending (sym same) pending)
              | inr changed ↦ inr (record {
                before = made.0;
                pending = pending;
                entries = made.3 (subst (AllSynced cs) (sym changed.1) (covered_synced steps cs changed.0 covered));
                changed = changed.2;
                synced = λ path has.
                    ap (list_any (syncs_path path)) all.1 ∙ any_makes path cs last ∙ ap (list_any (syncs_path path)) changed.1
                    ∙ ap (λ b. b || list_any (syncs_path path) changed.0) has;
              })
            ])
      ]

      -- a failure of a whole run comes before that, or after the promise
      pub failed_run : (n : ℕ) (cs : List Change) (entries : Entries) (left : KeptRoot)
          → MayLeave (at_rest old entries) (take n (Promise new ∷ SyncHistory ∷ (list_map Make cs ++ ending e steps))) left
          → (left ≡ at_rest old entries) ⊎ ((m : ℕ) × MayLeave (after (Promise new) (at_rest old entries)) (take m (list_map Make cs ++ ending e steps)) left)
      failed_run zero cs entries left h = inl h
      failed_run (suc zero) cs entries left (inl h) = inr (zero, h)
      failed_run (suc zero) cs entries left (inr h) = inl h.1
      failed_run (suc (suc n)) cs entries left (inl h) = inr (n, behind_sync (take n (list_map Make cs ++ ending e steps)) (after (Promise new) (at_rest old entries)) left h)
      failed_run (suc (suc n)) cs entries left (inr h) = absurd (true≢false h.0)

    -- the due steps stay on the way
    due_stay : (entries : Entries) → StayOnTheWay (replay old) (replay new) (due_steps (replay old) (replay new) entries)
    due_stay entries = stay-filter (replay old) (replay new) (is_due entries) all_steps all_stay

    pub due_covered : (entries : Entries) → AreCovered all_steps (due_steps (replay old) (replay new) entries)
    due_covered entries = covered-filter (is_due entries) all_steps all_steps (covered_all all_steps)

    -- a commit behind all steps leaves the new history with the new tree
    pub committed_new : (steps : List Change) (events : List Event) (cs : List Change) (w left : KeptRoot) → after_changes cs w.entries ≡ replay new → IsEnded Commit steps events cs w left → left ≡ at_rest new (replay new)
    committed_new steps events cs w left to end = end.changed ∙ ap (committed end.before) end.pending.next ∙ ap (at_rest new) (end.entries ∙ to)

    pub started : (entries : Entries) → IsOnTheWay (replay old) (replay new) entries → IsPending (after (Promise new) (at_rest old entries))
    started entries way = record { history = refl; next = refl; way = way }

    -- a failure of a run
    pub run_open : (entries : Entries) (n : ℕ) (cs : List Change) (left : KeptRoot) → IsOnTheWay (replay old) (replay new) entries → StayOnTheWay (replay old) (replay new) cs → after_changes cs entries ≡ replay new
        → MayLeave (at_rest old entries) (take n (run_events new cs)) left → IsOpen entries left
    run_open entries n cs left way stay to h = elim (failed_run Commit of_commit cs n cs entries left h) [
      | inl same ↦ inl same
      | inr later ↦ (
          let w : KeptRoot = after (Promise new) (at_rest old entries) in
          elim (failed_after Commit of_commit cs later.0 cs w left (started entries way) (covered_all cs) stay later.1) [
            | inl pending ↦ inr (inl pending)
            | inr end ↦ inr (inr (committed_new cs (take later.0 (made_and_ended cs cs)) cs w left to end))
          ])
    ]

    -- a failure of a run that is taken back
    pub withdrawn_open : (entries : Entries) (n : ℕ) (steps cs : List Change) (left : KeptRoot) → IsOnTheWay (replay old) (replay new) entries → AreCovered steps cs → StayOnTheWay (replay old) (replay new) cs
        → after_changes cs entries ≡ entries → MayLeave (at_rest old entries) (take n (Promise new ∷ SyncHistory ∷ (list_map Make cs ++ ending Withdraw steps))) left → IsOpen entries left
    withdrawn_open entries n steps cs left way covered stay back h = elim (failed_run Withdraw of_withdraw steps n cs entries left h) [
      | inl same ↦ inl same
      | inr later ↦ (
          let w : KeptRoot = after (Promise new) (at_rest old entries) in
          elim (failed_after Withdraw of_withdraw steps later.0 cs w left (started entries way) covered stay later.1) [
            | inl pending ↦ inr (inl pending)
            | inr end ↦ inl (end.changed ∙ (λ i. at_rest (end.pending.history i) ((end.entries ∙ back) i)))
          ])
    ]

    -- what recovery makes of a pending run
    pub pending_recovered : (w : KeptRoot) → IsPending w → recovered replay w ≡ at_rest new (replay new)
    pending_recovered w here =
        finishes w new here.next
        ∙ ap (λ h. at_rest new (after_changes (due_steps (replay h) (replay new) w.entries) w.entries)) here.history
        ∙ ap (at_rest new) (mended_way (replay old) (replay new) w.entries here.way)

    pub open_recovered : (entries : Entries) (w : KeptRoot) → IsOpen entries w → IsEither replay old new entries (recovered replay w)
    open_recovered entries w (inl same) = inl (ap (recovered replay) same)
    open_recovered entries w (inr (inl pending)) = inr (pending_recovered w pending)
    open_recovered entries w (inr (inr same)) = inr (ap (recovered replay) same)

    -- what recovery does if it finds a run pending
    pub pending_recovery : (w : KeptRoot) → IsPending w → recovery replay w ≡ finishing all_steps (due_steps (replay old) (replay new) w.entries)
    pending_recovery w here =
        ap (recovery_of replay w) here.next
        ∙ ap (λ h. finishing (steps_between (replay h) (replay new)) (due_steps (replay h) (replay new) w.entries)) here.history

    -- if the texts were synced, a run that was seen pending is pending
    pub pending_left : (entries : Entries) (seen v : KeptRoot) → IsPending seen → IsOpen entries v → SameTexts v seen → IsPending v
    pending_left entries seen v here (inl same) texts = none_some v.next new (ap (λ w. w.next) same) (texts.1 ∙ here.next)
    pending_left entries seen v here (inr (inl pending)) texts = pending
    pending_left entries seen v here (inr (inr same)) texts = none_some v.next new (ap (λ w. w.next) same) (texts.1 ∙ here.next)

    -- if the steps were synced, the entries that were seen are there
    pub entries_left : (since later : List Event) (base v : KeptRoot) → IsPending (after_all since base) → IsPending v → Kept since later base v
        → ((path : List ℕ) → has_path path all_steps ≡ true → list_any (syncs_path path) later ≡ true) → v.entries ≡ (after_all since base).entries
    entries_left since later base v here pending kept synced =
        same_on_way (replay old) (replay new) v.entries (after_all since base).entries pending.way here.way (λ path has. kept.entries path (synced path has))

    -- a failure of a recovery, behind its first event
    pub due_open : (entries : Entries) (n : ℕ) (seen v left : KeptRoot) → IsPending v → IsOnTheWay (replay old) (replay new) seen.entries
        → (((path : List ℕ) → has_path path all_steps ≡ true → list_any (syncs_path path) (take n (made_and_ended all_steps (due_steps (replay old) (replay new) seen.entries))) ≡ true) → v.entries ≡ seen.entries)
        → MayLeave v (take n (made_and_ended all_steps (due_steps (replay old) (replay new) seen.entries))) left → IsOpen entries left
    due_open entries n seen v left here way same h =
        let due : List Change = due_steps (replay old) (replay new) seen.entries in
        elim (failed_after Commit of_commit all_steps n due v left here (due_covered seen.entries) (due_stay seen.entries) h) [
          | inl pending ↦ inr (inl pending)
          | inr end ↦ inr (inr (committed_new all_steps (take n (made_and_ended all_steps due)) due v left (ap (after_changes due) (same end.synced) ∙ mended_way (replay old) (replay new) seen.entries way) end))
        ]
