-- Roots of which not all is on the disk yet.
use Rattle.std.proofs.Common.{◌≡◌, ℕ, zero, suc, Bool, true, false, cond, List, [], ◌∷◌, take, Option, Some, None, refl, sym, ap, ◌∙◌, subst, inl, inr}
use Rattle.std.specs.Prelude.{◌⊎◌, ◌||◌}
use Rattle.std.specs.List.{list_any}
use Rattle.std.specs.Str.{bytes_eq}
use Rattle.std.specs.FinMap as map
use Rattle.std.proofs.lemmas.Bool.{cases_Bool, false≢true}
use Rattle.link_tree.specs.declared.entry.Entry.{Entry}
use Rattle.link_tree.specs.declared.change.Change.{Change}
use Rattle.link_tree.specs.Trees.{Entries, after_change, after_changes}
use Rattle.link_tree.specs.Differences.{same}
use Rattle.link_tree.proofs.Changed.{same_tree, same_bytes, get-set, get-set_other, after_at, get-after_changes}
use Rattle.link_tree.proofs.Differences.{same_is}
use Rattle.tree_steps.specs.Steps.{IsOnTheWay}
use Rattle.disk.specs.Events.{Event, Promise, Commit, Withdraw, SyncHistory, Make, SyncSteps, Clear}
use Rattle.kept_history.specs.Roots.{KeptRoot, at_rest, committed, after, after_all, has_path, syncs_path, MayLeave}
use Rattle.kept_history.specs.Runs.{ending}
use Rattle.kept_history.specs.Recovery.{finishing, recovery, recovered, MayReach, Killed, KilledAgain, PowerFailed}
use Rattle.kept_history.proofs.Mending.{mends}
use Rattle.kept_history.proofs.Staying.{stay-take}
use Rattle.kept_history.proofs.Crashes.{SomeMade, AllSynced, any_makes, makes, up_to, ended, covered_synced}
use Rattle.kept_history.proofs.Losses.{SameTexts, Kept, nothing_lost, in_two}
use Rattle.kept_history.proofs.Pending.{of_commit, made_and_ended, synced_only, behind_sync, behind_clear, none_some}
use Rattle.kept_laws.specs.Found.{IsMended}
use Rattle.kept_laws.specs.Laws.{UnsyncedRootsMend}
use Rattle.kept_laws.proofs.Found.{unlike, mended, same_end, untouched, mends_there, steps, due_at, due_covered, IsPartly, found_partly, partly_recovery, partly_recovered, only_syncs, found_rests, recovered_mended, stay_of, due_put}

-- Changes leave what is at a path, or put one entry there, whatever was there.
fixed_or_kept : (cs : List Change) (q : List ℕ)
    → ((o : Option Entry) → after_at cs q o ≡ o) ⊎ ((x : Option Entry) × ((o : Option Entry) → after_at cs q o ≡ x))
fixed_or_kept [] q = inl (λ o. refl)
fixed_or_kept (c ∷ cs) q = elim (fixed_or_kept cs q) [
  | inl kept ↦ elim (cases_Bool (bytes_eq q c.path)) [
    | inl here ↦ inr (c.after, λ o. kept (cond (bytes_eq q c.path) c.after o) ∙ ap (λ b. cond b c.after o) here)
    | inr away ↦ inl (λ o. kept (cond (bytes_eq q c.path) c.after o) ∙ ap (λ b. cond b c.after o) away)
  ]
  | inr fixed ↦ inr (fixed.0, λ o. fixed.1 (cond (bytes_eq q c.path) c.after o))
]

-- what is there after the same changes of two trees: what was there, or the same as in the other
one_or_other : (cs : List Change) (here now : Entries) (q : List ℕ)
    → ((map.get (after_changes cs here) q ≡ map.get here q) × (map.get (after_changes cs now) q ≡ map.get now q)) ⊎ (map.get (after_changes cs here) q ≡ map.get (after_changes cs now) q)
one_or_other cs here now q = elim (fixed_or_kept cs q) [
  | inl kept ↦ inl (get-after_changes cs here q ∙ kept (map.get here q), get-after_changes cs now q ∙ kept (map.get now q))
  | inr fixed ↦ inr (get-after_changes cs here q ∙ fixed.1 (map.get here q) ∙ sym (get-after_changes cs now q ∙ fixed.1 (map.get now q)))
]

module _ (test : List ℕ → Bool) where
  -- a root with the texts of one, and at the paths that pass the test with the entries of the other
  pub record IsMix (one other mix : KeptRoot) : Type 0 where
    pub history : mix.history ≡ other.history
    pub next : mix.next ≡ other.next
    pub passed : (q : List ℕ) → test q ≡ true → map.get mix.entries q ≡ map.get one.entries q
    pub failed : (q : List ℕ) → test q ≡ false → map.get mix.entries q ≡ map.get other.entries q

  -- another path has what it had
  elsewhere : (c : Change) (t : Entries) (q : List ℕ) (b : Bool) → test c.path ≡ b → (test q ≡ b → ⊥) → map.get (after_change c t) q ≡ map.get t q
  elsewhere c t q b here other = elim (cases_Bool (bytes_eq q c.path)) [
    | inl equal ↦ absurd (other (ap test (same_bytes q c.path equal) ∙ here))
    | inr away ↦ get-set_other t c.path c.after q away
  ]

  -- equal entries stay equal
  alike : (c : Change) (t u : Entries) (q : List ℕ) → map.get t q ≡ map.get u q → map.get (after_change c t) q ≡ map.get (after_change c u) q
  alike c t u q h = get-set t c.path c.after q ∙ ap (cond (bytes_eq q c.path) c.after) h ∙ sym (get-set u c.path c.after q)

  not_false : (q : List ℕ) → test q ≡ false → test q ≡ true → ⊥
  not_false q no_test passes = false≢true (sym no_test ∙ passes)

  not_true : (q : List ℕ) → test q ≡ true → test q ≡ false → ⊥
  not_true q passes no_test = false≢true (sym no_test ∙ passes)

  module _ (c : Change) (one other mix : KeptRoot) (is : IsMix one other mix) where
    both_made : IsMix (after (Make c) one) (after (Make c) other) (after (Make c) mix)
    both_made = record {
      history = is.history;
      next = is.next;
      passed = λ q h. alike c mix.entries one.entries q (is.passed q h);
      failed = λ q h. alike c mix.entries other.entries q (is.failed q h);
    }

    module _ (passes : test c.path ≡ true) where
      one_made : IsMix (after (Make c) one) other (after (Make c) mix)
      one_made = record {
        history = is.history;
        next = is.next;
        passed = λ q h. alike c mix.entries one.entries q (is.passed q h);
        failed = λ q h. elsewhere c mix.entries q true passes (not_false q h) ∙ is.failed q h;
      }

      other_made : IsMix one (after (Make c) other) mix
      other_made = record {
        history = is.history;
        next = is.next;
        passed = is.passed;
        failed = λ q h. is.failed q h ∙ sym (elsewhere c other.entries q true passes (not_false q h));
      }

    module _ (fails : test c.path ≡ false) where
      other_made_there : IsMix one (after (Make c) other) (after (Make c) mix)
      other_made_there = record {
        history = is.history;
        next = is.next;
        passed = λ q h. elsewhere c mix.entries q false fails (not_true q h) ∙ is.passed q h;
        failed = λ q h. alike c mix.entries other.entries q (is.failed q h);
      }

      one_made_away : IsMix (after (Make c) one) other mix
      one_made_away = record {
        history = is.history;
        next = is.next;
        passed = λ q h. is.passed q h ∙ sym (elsewhere c one.entries q false fails (not_true q h));
        failed = is.failed;
      }

  -- an event that changes no entry
  module _ (e : Event) (keeps : (w : KeptRoot) → (after e w).entries ≡ w.entries) (texts : (v w : KeptRoot) → SameTexts v w → SameTexts (after e v) (after e w)) (one other mix : KeptRoot) (is : IsMix one other mix) where
    text_one : IsMix (after e one) other mix
    text_one = record {
      history = is.history;
      next = is.next;
      passed = λ q h. is.passed q h ∙ sym (ap (λ t. map.get t q) (keeps one));
      failed = is.failed;
    }

    text_other : IsMix one (after e other) (after e mix)
    text_other =
        let both = texts mix other (is.history, is.next) in record {
          history = both.0;
          next = both.1;
          passed = λ q h. ap (λ t. map.get t q) (keeps mix) ∙ is.passed q h;
          failed = λ q h. ap (λ t. map.get t q) (keeps mix) ∙ is.failed q h ∙ sym (ap (λ t. map.get t q) (keeps other));
        }

  -- what may be left of the one, for the roots of these events and any that may be left of the other
  abbrev Mixes : List Event → Type 0
  Mixes events = (one other mix left right : KeptRoot) → IsMix one other mix → MayLeave one events left → MayLeave other events right
      → (v : KeptRoot) × MayLeave mix events v × IsMix left right v

  module _ (e : Event) (events : List Event) (rest : Mixes events) where
    text_mixes : ((w : KeptRoot) → (after e w).entries ≡ w.entries) → ((v w : KeptRoot) → SameTexts v w → SameTexts (after e v) (after e w)) → Mixes (e ∷ events)
    text_mixes keeps texts one other mix left right is (inl h) (inl k) =
        let more = rest (after e one) (after e other) (after e mix) left right (text_other e keeps texts (after e one) other mix (text_one e keeps texts one other mix is)) h k in
        (more.0, inl more.1, more.2)
    text_mixes keeps texts one other mix left right is (inl h) (inr k) =
        let more = rest (after e one) other mix left right (text_one e keeps texts one other mix is) h k.1 in
        (more.0, inr (k.0, more.1), more.2)
    text_mixes keeps texts one other mix left right is (inr h) (inl k) =
        let more = rest one (after e other) (after e mix) left right (text_other e keeps texts one other mix is) h.1 k in
        (more.0, inl more.1, more.2)
    text_mixes keeps texts one other mix left right is (inr h) (inr k) =
        let more = rest one other mix left right is h.1 k.1 in
        (more.0, inr (k.0, more.1), more.2)

  module _ (c : Change) (events : List Event) (rest : Mixes events) where
    passed_mixes : test c.path ≡ true → Mixes (Make c ∷ events)
    passed_mixes at one other mix left right is (inl h) (inl k) =
        let more = rest (after (Make c) one) (after (Make c) other) (after (Make c) mix) left right (both_made c one other mix is) h k in
        (more.0, inl more.1, more.2)
    passed_mixes at one other mix left right is (inl h) (inr k) =
        let more = rest (after (Make c) one) other (after (Make c) mix) left right (one_made c one other mix is at) h k.1 in
        (more.0, inl more.1, more.2)
    passed_mixes at one other mix left right is (inr h) (inl k) =
        let more = rest one (after (Make c) other) mix left right (other_made c one other mix is at) h.1 k in
        (more.0, inr (h.0, more.1), more.2)
    passed_mixes at one other mix left right is (inr h) (inr k) =
        let more = rest one other mix left right is h.1 k.1 in
        (more.0, inr (h.0, more.1), more.2)

    failed_mixes : test c.path ≡ false → Mixes (Make c ∷ events)
    failed_mixes at one other mix left right is (inl h) (inl k) =
        let more = rest (after (Make c) one) (after (Make c) other) (after (Make c) mix) left right (both_made c one other mix is) h k in
        (more.0, inl more.1, more.2)
    failed_mixes at one other mix left right is (inl h) (inr k) =
        let more = rest (after (Make c) one) other mix left right (one_made_away c one other mix is at) h k.1 in
        (more.0, inr (k.0, more.1), more.2)
    failed_mixes at one other mix left right is (inr h) (inl k) =
        let more = rest one (after (Make c) other) (after (Make c) mix) left right (other_made_there c one other mix is at) h.1 k in
        (more.0, inl more.1, more.2)
    failed_mixes at one other mix left right is (inr h) (inr k) =
        let more = rest one other mix left right is h.1 k.1 in
        (more.0, inr (k.0, more.1), more.2)

    step_mixes : Mixes (Make c ∷ events)
    step_mixes = elim (cases_Bool (test c.path)) [ inl at ↦ passed_mixes at | inr at ↦ failed_mixes at ]

  committed_entries : (u : KeptRoot) (next : Option (List ℕ)) → (committed u next).entries ≡ u.entries
  committed_entries u None = refl
  committed_entries u (Some text) = refl

  committed_texts : (v w : KeptRoot) (next : Option (List ℕ)) → SameTexts v w → SameTexts (committed v next) (committed w next)
  committed_texts v w None same_here = same_here
  committed_texts v w (Some text) same_here = (refl, refl)

  -- what may be left of the one and of the other may be left of a mix of both
  pub mixes : (events : List Event) → Mixes events
  mixes [] = λ one other mix left right is h k. (mix, refl, subst (λ r. IsMix left r mix) (sym k) (subst (λ l. IsMix l other mix) (sym h) is))
  mixes (Promise text ∷ events) = text_mixes (Promise text) events (mixes events) (λ w. refl) (λ v w h. (h.0, refl))
  mixes (Commit ∷ events) =
      text_mixes Commit events (mixes events) (λ w. committed_entries w w.next)
      (λ v w h. subst (λ n. SameTexts (committed v v.next) (committed w n)) h.1 (committed_texts v w v.next h))
  mixes (Withdraw ∷ events) = text_mixes Withdraw events (mixes events) (λ w. refl) (λ v w h. (h.0, refl))
  mixes (SyncHistory ∷ events) = text_mixes SyncHistory events (mixes events) (λ w. refl) (λ v w h. h)
  mixes (Make step ∷ events) = step_mixes step events (mixes events)
  mixes (SyncSteps paths ∷ events) = text_mixes (SyncSteps paths) events (mixes events) (λ w. refl) (λ v w h. h)
  mixes (Clear paths ∷ events) = text_mixes (Clear paths) events (mixes events) (λ w. refl) (λ v w h. h)

module _ (replay : List ℕ → Entries) where
  -- the second is the first one with some of the steps made that recovery makes, or what recovery
  -- leaves of it
  abbrev IsBetween : KeptRoot → KeptRoot → Type 0
  IsBetween v w = ((text : List ℕ) × (v.next ≡ Some text) × IsPartly replay v text w) ⊎ (w ≡ recovered replay v)

  begins_between : (v : KeptRoot) (next : Option (List ℕ)) → v.next ≡ next → IsBetween v v
  begins_between v None is = inr (sym (found_rests replay v is))
  begins_between v (Some text) is = inl (text, is, found_partly replay v text is)

  rests_next : (v : KeptRoot) → (recovered replay v).next ≡ None
  rests_next v = ap (λ w. w.next) (recovered_mended replay v).rest

  between_recovered : (v w : KeptRoot) → IsBetween v w → recovered replay w ≡ recovered replay v
  between_recovered v w (inl partly) = partly_recovered replay v partly.0 w partly.2 ∙ sym (partly_recovered replay v partly.0 v (found_partly replay v partly.0 partly.1))
  between_recovered v w (inr same_there) = ap (recovered replay) same_there ∙ found_rests replay (recovered replay v) (rests_next v)

  module _ (root : KeptRoot) (events : List Event) where
    -- It is between what a power failure may have left of the events, and what recovery leaves of
    -- that.
    abbrev IsFrom : KeptRoot → Type 0
    IsFrom w = (v : KeptRoot) × MayLeave root events v × IsBetween v w

    module _ (one other now here : KeptRoot) (text : List ℕ) (may : MayLeave root events one) (also_may : MayLeave root events other)
        (part : IsPartly replay one text now) (promised : other.next ≡ Some text) (history : other.history ≡ one.history) (texts : SameTexts here now)
        (way : IsOnTheWay other.entries (mended (replay one.history) (replay text) other.entries) here.entries) where
      abbrev end_of : Entries → Entries
      end_of t = mended (replay one.history) (replay text) t

      -- which paths have what the one is to have
      abbrev is_as_one : Entries → List ℕ → Bool
      is_as_one t q = same (map.get t q) (map.get (end_of one.entries) q)

      chosen : (t : Entries) → (v : KeptRoot) × MayLeave root events v × IsMix (is_as_one t) one other v
      chosen t = mixes (is_as_one t) events root root root one other (record { history = refl; next = refl; passed = λ q h. refl; failed = λ q h. refl }) may also_may

      module _ (t : Entries) (v : KeptRoot) (mix : IsMix (is_as_one t) one other v) where
        same_history : one.history ≡ v.history
        same_history = sym (mix.history ∙ history)

        is_one : (q : List ℕ) → is_as_one t q ≡ true → map.get t q ≡ map.get (end_of v.entries) q
        is_one q passes =
            same_is (map.get t q) (map.get (end_of one.entries) q) passes
            ∙ sym (mends_there (replay one.history) (replay text) one.entries v.entries (end_of one.entries) (end_of v.entries) q (mends (replay one.history) (replay text) one.entries) (mends (replay one.history) (replay text) v.entries) (mix.passed q passes))

        is_other : (q : List ℕ) → is_as_one t q ≡ false → map.get (end_of other.entries) q ≡ map.get (end_of v.entries) q
        is_other q fails = sym (mends_there (replay one.history) (replay text) other.entries v.entries (end_of other.entries) (end_of v.entries) q (mends (replay one.history) (replay text) other.entries) (mends (replay one.history) (replay text) v.entries) (mix.failed q fails))

        not_one : {P : Type 0} (q : List ℕ) → is_as_one t q ≡ false → map.get t q ≡ map.get (end_of one.entries) q → P
        not_one q fails is = absurd (unlike (map.get t q) (map.get (end_of one.entries) q) fails is)

        -- some of the steps were made
        on_way : ((q : List ℕ) → (map.get t q ≡ map.get here.entries q) ⊎ (map.get t q ≡ map.get (end_of one.entries) q)) → IsOnTheWay v.entries (end_of v.entries) t
        on_way on q = elim (cases_Bool (is_as_one t q)) [
          | inl passes ↦ inr (is_one q passes)
          | inr fails ↦ elim (on q) [
            | inl kept ↦ elim (way q) [
              | inl was ↦ inl (kept ∙ was ∙ sym (mix.failed q fails))
              | inr done ↦ inr (kept ∙ done ∙ is_other q fails)
            ]
            | inr is ↦ not_one q fails is
          ]
        ]

        -- all of them were
        at_end : ((q : List ℕ) → (map.get t q ≡ map.get (end_of one.entries) q) ⊎ ((map.get t q ≡ map.get here.entries q) × (has_path q (steps replay one text) ≡ false))) → t ≡ end_of v.entries
        at_end on = same_tree t (end_of v.entries) (λ q. elim (cases_Bool (is_as_one t q)) [
          | inl passes ↦ is_one q passes
          | inr fails ↦ elim (on q) [
            | inl is ↦ not_one q fails is
            | inr kept ↦ (
                let stays = untouched (replay one.history) (replay text) other.entries q kept.1 in
                kept.0 ∙ elim (way q) [ inl was ↦ was ∙ sym stays | inr done ↦ done ] ∙ is_other q fails)
          ]
        ])

      abbrev due : List Change
      due = due_at replay one text now.entries

      -- a root with the same texts and some of the steps
      some_from : (u : KeptRoot) → SomeMade here.entries (end_of one.entries) due here u → IsFrom u
      some_from u made =
          let choice = chosen u.entries in
          let v : KeptRoot = choice.0 in
          let mix : IsMix (is_as_one u.entries) one other v = choice.2 in
          let stay = stay_of here.entries (end_of one.entries) due (due_put (replay one.history) (replay text) one.entries now.entries part.way) in
          let on = on_way u.entries v mix (made.way stay (λ q. inl refl)) in (
            v,
            choice.1,
            inl (
              text,
              mix.next ∙ promised,
              record {
                history = made.history ∙ texts.0 ∙ part.history ∙ same_history u.entries v mix;
                next = made.next ∙ texts.1 ∙ part.next;
                way = subst (λ h. IsOnTheWay v.entries (mended (replay h) (replay text) v.entries) u.entries) (same_history u.entries v mix) on;
              },
            ),
          )

      to_end : (q : List ℕ) → map.get (after_changes due now.entries) q ≡ map.get (end_of one.entries) q
      to_end q = ap (λ t. map.get t q) (same_end (replay one.history) (replay text) one.entries now.entries part.way)

      -- the steps are on the disk
      abbrev AreSynced : Type 0
      AreSynced = (q : List ℕ) → has_path q (steps replay one text) ≡ true → map.get here.entries q ≡ map.get now.entries q

      ends_at : AreSynced → (q : List ℕ) → (map.get (after_changes due here.entries) q ≡ map.get (end_of one.entries) q)
          ⊎ ((map.get (after_changes due here.entries) q ≡ map.get here.entries q) × (has_path q (steps replay one text) ≡ false))
      ends_at synced q = elim (one_or_other due here.entries now.entries q) [
        | inl kept ↦ elim (cases_Bool (has_path q (steps replay one text))) [
          | inl step ↦ inl (kept.0 ∙ synced q step ∙ sym kept.1 ∙ to_end q)
          | inr none ↦ inr (kept.0, none)
        ]
        | inr alike_there ↦ inl (alike_there ∙ to_end q)
      ]

      -- the new history, with all of them
      all_from : (u : KeptRoot) → u ≡ at_rest text (after_changes due here.entries) → AreSynced → IsFrom u
      all_from u is synced =
          let t : Entries = after_changes due here.entries in
          let choice = chosen t in
          let v : KeptRoot = choice.0 in
          let mix : IsMix (is_as_one t) one other v = choice.2 in
          let end = at_end t v mix (ends_at synced) in (
            v,
            choice.1,
            inr (
                is ∙ ap (at_rest text) (end ∙ ap (λ h. mended (replay h) (replay text) v.entries) (same_history t v mix))
                ∙ sym (partly_recovered replay v text v (found_partly replay v text (mix.next ∙ promised)))),
          )

      -- a front of the steps stays between as all of them do
      front_made : (k : ℕ) (u : KeptRoot) → SomeMade here.entries (end_of one.entries) (take k due) here u → SomeMade here.entries (end_of one.entries) due here u
      front_made k u made = record {
        history = made.history;
        next = made.next;
        way = λ stay from. made.way (stay-take here.entries (end_of one.entries) k due stay) from;
      }

      -- a failure among the steps of a recovery, or at its end
      failed_from : (n : ℕ) (left : KeptRoot)
          → (((q : List ℕ) → has_path q (steps replay one text) ≡ true → list_any (syncs_path q) (take n (made_and_ended (steps replay one text) due)) ≡ true) → AreSynced)
          → MayLeave here (take n (made_and_ended (steps replay one text) due)) left → IsFrom left
      failed_from n left synced h = elim (up_to n due (ending Commit (steps replay one text))) [
        | inl some ↦ (
            let made = makes here.entries (end_of one.entries) (take some.0 due) [] here left (subst (λ es. MayLeave here es left) some.1 h) in
            subst IsFrom (sym made.2) (some_from made.0 (front_made some.0 made.0 made.1)))
        | inr all ↦ (
            let last : List Event = take all.0 (ending Commit (steps replay one text)) in
            let made = makes here.entries (end_of one.entries) due last here left (subst (λ es. MayLeave here es left) all.1 h) in
            elim (ended Commit of_commit (steps replay one text) all.0 made.0 left made.2) [
              | inl unchanged ↦ subst IsFrom (sym unchanged) (some_from made.0 made.1)
              | inr changed ↦ all_from left
                  (changed.2 ∙ ap (committed made.0) (made.1.next ∙ texts.1 ∙ part.next)
                  ∙ ap (at_rest text) (made.3 (subst (AllSynced due) (sym changed.1) (covered_synced (steps replay one text) due changed.0 (due_covered replay one text now.entries)))))
                  (synced (λ q has.
                  ap (list_any (syncs_path q)) all.1 ∙ any_makes q due last ∙ ap (list_any (syncs_path q)) changed.1
                  ∙ ap (λ b. b || list_any (syncs_path q) changed.0) has))
            ])
      ]

    module _ (since : List Event) (base : KeptRoot) where
      abbrev seen : KeptRoot
      seen = after_all since base

      some_is : {y z : List ℕ} → Some y ≡ Some z → y ≡ z
      some_is h = cc

      promised_from : (n : ℕ) (v left one : KeptRoot) → MayLeave root events one → (text : List ℕ) → IsPartly replay one text seen → IsFrom v
          → MayLeave v (take n (finishing (steps replay one text) (due_at replay one text seen.entries))) left
          → Kept since (take n (finishing (steps replay one text) (due_at replay one text seen.entries))) base v → IsFrom left
      promised_from zero v left one may text part from h kept = subst IsFrom (sym h) from
      promised_from (suc zero) v left one may text part from h kept = subst IsFrom (sym (behind_sync [] v left h)) from
      promised_from (suc (suc n)) v left one may text part from h kept =
          let texts : SameTexts v seen = kept.texts refl in
          elim from.2 [
            | inr rests ↦ none_some v.next text (ap (λ w. w.next) rests ∙ rests_next from.0) (texts.1 ∙ part.next)
            | inl other ↦ (
                let text_is : other.0 ≡ text = some_is (sym other.2.next ∙ texts.1 ∙ part.next) in
                let history_is : from.0.history ≡ one.history = sym other.2.history ∙ texts.0 ∙ part.history in
                let rest : List Event = take n (made_and_ended (steps replay one text) (due_at replay one text seen.entries)) in
                failed_from one from.0 seen v text may from.1 part (other.1 ∙ ap (λ x. Some x) text_is) history_is texts
                (subst (λ x. IsOnTheWay from.0.entries (mended (replay one.history) (replay x) from.0.entries) v.entries) text_is
                (subst (λ x. IsOnTheWay from.0.entries (mended (replay x) (replay other.0) from.0.entries) v.entries) history_is other.2.way))
                n left (λ synced q has. kept.entries q (synced q has))
                (behind_clear (steps replay one text) rest v left (behind_sync (Clear (steps replay one text) ∷ rest) v left h)))
          ]

      -- a failure of a recovery
      recovery_from : (n : ℕ) (v left : KeptRoot) → IsFrom seen → IsFrom v → MayLeave v (take n (recovery replay seen)) left → Kept since (take n (recovery replay seen)) base v → IsFrom left
      recovery_from n v left one from h kept = elim one.2 [
        | inl partly ↦ (
            let is = partly_recovery replay one.0 partly.0 seen partly.2 in
            promised_from n v left one.0 one.1 partly.0 partly.2 from (subst (λ es. MayLeave v (take n es) left) is h) (subst (λ es. Kept since (take n es) base v) is kept))
        | inr rests ↦ (
            let syncs : recovery replay seen ≡ SyncHistory ∷ [] = only_syncs replay seen (ap (λ w. w.next) rests ∙ rests_next one.0) in
            subst IsFrom (sym (synced_only n v left (subst (λ es. MayLeave v (take n es) left) syncs h))) from)
      ]

  always_from : (root : KeptRoot) (events : List Event) (base : KeptRoot) (since : List Event) → MayReach replay root events base since
      → (n : ℕ) × ((left : KeptRoot) → MayLeave base since left → IsFrom root (take n events) left)
  always_from root events base since (Killed n) = (n, λ left h. (left, h, begins_between left left.next refl))
  always_from root events base since (KilledAgain same_base before n reach) =
      let more = always_from root events base before reach in (
        more.0,
        λ left h.
            let two = in_two before (take n (recovery replay (after_all before base))) base left h in
            recovery_from root (take more.0 events) before base n two.0 left (more.1 (after_all before base) (nothing_lost before base)) (more.1 two.0 two.1) two.2 two.3,
      )
  always_from root events base since (PowerFailed before same_base earlier reach h) =
      let more = always_from root events before earlier reach in
      (more.0, λ left now. subst (IsFrom root (take more.0 events)) (sym now) (more.1 base h))

pub unsynced_roots_mend : UnsyncedRootsMend
unsynced_roots_mend replay root base events since reach =
    let all = always_from replay root events base since reach in
    let from = all.1 (after_all since base) (nothing_lost since base) in
    (from.0, all.0, from.1, subst (IsMended replay from.0) (sym (between_recovered replay from.0 (after_all since base) from.2)) (recovered_mended replay from.0))
