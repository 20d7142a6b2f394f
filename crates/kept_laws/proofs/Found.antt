-- Recovery of a root that was found in any state.
use Rattle.std.proofs.Common.{◌≡◌, ℕ, zero, suc, Bool, true, false, cond, List, [], ◌∷◌, take, Option, Some, None, refl, sym, ap, ◌∙◌, subst, inl, inr}
use Rattle.std.specs.Prelude.{◌≢◌, ◌⊎◌, ◌||◌}
use Rattle.std.specs.List.{list_any, filter}
use Rattle.std.specs.Str.{bytes_eq}
use Rattle.std.specs.FinMap as map
use Rattle.std.proofs.lemmas.Bool.{cases_Bool, false≢true, or_parts}
use Rattle.std.proofs.lemmas.Slice.Eq.{bytes_eq-Decides}
use Rattle.link_tree.specs.declared.entry.Entry.{Entry}
use Rattle.link_tree.specs.declared.change.Change.{Change}
use Rattle.link_tree.specs.Trees.{Entries, KeepsPath, AreFrom, after_change, after_changes}
use Rattle.link_tree.specs.Differences.{same}
use Rattle.link_tree.proofs.Changed.{same_tree, get-set, get-after_changes, after_at-kept}
use Rattle.link_tree.proofs.Differences.{same_is, same-itself}
use Rattle.tree_steps.specs.Steps.{steps_between, IsOnTheWay}
use Rattle.tree_steps.proofs.Turns.{steps_from, steps_to}
use Rattle.disk.specs.Events.{Event, Commit, SyncHistory, Clear}
use Rattle.kept_history.specs.Roots.{KeptRoot, at_rest, committed, after_all, has_path, syncs_path, MayLeave}
use Rattle.kept_history.specs.Runs.{ending}
use Rattle.kept_history.specs.Recovery.{is_due, due_steps, finishing, recovery_of, recovery, recovered, MayReach, Killed, KilledAgain, PowerFailed}
use Rattle.kept_history.specs.Laws.{Mends}
use Rattle.kept_history.proofs.Mending.{mends}
use Rattle.kept_history.proofs.Staying.{StayOnTheWay, AreCovered, covered_all, covered-filter, stay-take}
use Rattle.kept_history.proofs.Crashes.{SomeMade, AllSynced, any_makes, makes, up_to, ended, covered_synced}
use Rattle.kept_history.proofs.Losses.{SameTexts, Kept, nothing_lost, in_two}
use Rattle.kept_history.proofs.Pending.{same_root, of_commit, made_and_ended, made_lasts, synced_only, behind_sync, behind_clear, none_some, finishes}
use Rattle.kept_history.proofs.Lasting.{recovery_mends}
use Rattle.kept_laws.specs.Found.{Ends, promised_or, IsMended}
use Rattle.kept_laws.specs.Laws.{RecoveriesMend, MendedInOneWay}

pub unlike : (one other : Option Entry) → same one other ≡ false → one ≢ other
unlike one other apart = λ is. false≢true (sym apart ∙ ap (λ o. same o other) is ∙ same-itself other)

-- no step is at this path
keeps_absent : (q : List ℕ) (cs : List Change) → has_path q cs ≡ false → KeepsPath q cs
keeps_absent q [] none = tt
keeps_absent q (c ∷ cs) none =
    let parts = or_parts (bytes_eq q c.path) (has_path q cs) none in
    (parts.0, keeps_absent q cs parts.1)

-- Each of these changes puts what the tree has there.
abbrev pub AllPut : Entries → List Change → Type 0
AllPut t [] = Unit {0}
AllPut t (c ∷ cs) = (c.after ≡ map.get t c.path) × AllPut t cs

set_there : (c : Change) (t : Entries) → map.get (after_change c t) c.path ≡ c.after
set_there c t = get-set t c.path c.after c.path ∙ ap (λ b. cond b c.after (map.get t c.path)) ((bytes_eq-Decides c.path c.path).1 refl)

-- changes of different paths do that in the tree that they leave
put_all : (m : Entries) (cs : List Change) (t : Entries) → AreFrom m cs → AllPut (after_changes cs t) cs
put_all m [] t from = tt
put_all m (c ∷ cs) t from = (
  sym (get-after_changes cs (after_change c t) c.path ∙ after_at-kept cs c.path (map.get (after_change c t) c.path) from.1 ∙ set_there c t),
  put_all m cs (after_change c t) from.2,
)

pub stay_of : (one other : Entries) (cs : List Change) → AllPut other cs → StayOnTheWay one other cs
stay_of one other [] put = tt
stay_of one other (c ∷ cs) put = (inr put.0, stay_of one other cs put.1)

module _ (old new first : Entries) where
  -- what the due steps leave of what was found
  abbrev pub mended : Entries
  mended = after_changes (due_steps old new first) first

  abbrev finds : Mends old new first mended
  finds = mends old new first

  -- a path with the old entry is to have the new one, whether it was found so or not
  made_there : (now : Entries) (q : List ℕ) → (map.get now q ≡ map.get first q) ⊎ (map.get now q ≡ map.get mended q) → map.get now q ≡ map.get old q → map.get mended q ≡ map.get new q
  made_there now q (inl found) is = finds.put q (sym found ∙ is)
  made_there now q (inr done) is = elim (cases_Bool (same (map.get first q) (map.get old q))) [
    | inl was ↦ finds.put q (same_is (map.get first q) (map.get old q) was)
    | inr other ↦ absurd (unlike (map.get first q) (map.get old q) other (sym (finds.left q (unlike (map.get first q) (map.get old q) other)) ∙ sym done ∙ is))
  ]

  -- a path with another entry is to have that
  stays_there : (now : Entries) (q : List ℕ) → (map.get now q ≡ map.get first q) ⊎ (map.get now q ≡ map.get mended q) → map.get now q ≢ map.get old q → map.get now q ≡ map.get mended q
  stays_there now q (inl found) other = found ∙ sym (finds.left q (λ is. other (found ∙ is)))
  stays_there now q (inr done) other = done

  -- from any tree on the way, the steps that are due there lead to the same
  pub same_end : (now : Entries) → IsOnTheWay first mended now → after_changes (due_steps old new now) now ≡ mended
  same_end now way = same_tree (after_changes (due_steps old new now) now) mended (λ q. elim (cases_Bool (same (map.get now q) (map.get old q))) [
    | inl was ↦ (
        let is : map.get now q ≡ map.get old q = same_is (map.get now q) (map.get old q) was in
        (mends old new now).put q is ∙ sym (made_there now q (way q) is))
    | inr not_same ↦ (
        let other : map.get now q ≢ map.get old q = unlike (map.get now q) (map.get old q) not_same in
        (mends old new now).left q other ∙ stays_there now q (way q) other)
  ])

  all_steps_put : AllPut new (steps_between old new)
  all_steps_put = subst (λ t. AllPut t (steps_between old new)) (steps_to old new) (put_all old (steps_between old new) old (steps_from old new))

  some_put : (test : Change → Bool) → ((c : Change) → map.get old c.path ≡ c.before → c.after ≡ map.get new c.path → test c ≡ true → c.after ≡ map.get mended c.path)
      → (cs : List Change) → AreFrom old cs → AllPut new cs → AllPut mended (filter test cs)
  some_put test puts [] from put = tt
  some_put test puts (c ∷ cs) from put = elim (cases_Bool (test c)) [
    | inl passes ↦ rw passes (puts c from.0 put.0 passes, some_put test puts cs from.2 put.1)
    | inr fails ↦ rw fails (some_put test puts cs from.2 put.1)
  ]

  -- from any tree on the way, the due steps put what the mended tree has there
  pub due_put : (now : Entries) → IsOnTheWay first mended now → AllPut mended (due_steps old new now)
  due_put now way =
      some_put (is_due now) (λ c from put due. put ∙ sym (made_there now c.path (way c.path) (same_is (map.get now c.path) c.before due ∙ sym from)))
      (steps_between old new) (steps_from old new) all_steps_put

  -- where no step is, both trees have the same, and what was found stays
  unchanged : (q : List ℕ) → has_path q (steps_between old new) ≡ false → map.get old q ≡ map.get new q
  unchanged q none =
      sym (after_at-kept (steps_between old new) q (map.get old q) (keeps_absent q (steps_between old new) none))
      ∙ sym (get-after_changes (steps_between old new) old q) ∙ ap (λ t. map.get t q) (steps_to old new)

  pub untouched : (q : List ℕ) → has_path q (steps_between old new) ≡ false → map.get mended q ≡ map.get first q
  untouched q none = elim (cases_Bool (same (map.get first q) (map.get old q))) [
    | inl was ↦ (let is = same_is (map.get first q) (map.get old q) was in finds.put q is ∙ sym (unchanged q none) ∙ sym is)
    | inr other ↦ finds.left q (unlike (map.get first q) (map.get old q) other)
  ]

  settled : (now : Entries) (q : List ℕ) → IsOnTheWay first mended now → has_path q (steps_between old new) ≡ false → map.get now q ≡ map.get first q
  settled now q way none = elim (way q) [ inl found ↦ found | inr done ↦ done ∙ untouched q none ]

  -- two trees on the way that have the same at all steps are equal
  pub same_between : (one other : Entries) → IsOnTheWay first mended one → IsOnTheWay first mended other
      → ((q : List ℕ) → has_path q (steps_between old new) ≡ true → map.get one q ≡ map.get other q) → one ≡ other
  same_between one other way ways agree = same_tree one other (λ q. elim (cases_Bool (has_path q (steps_between old new))) [
    | inl step ↦ agree q step
    | inr none ↦ settled one q way none ∙ sym (settled other q ways none)
  ])

-- there is one way to mend a tree
mends_alike : (old new entries one other : Entries) → Mends old new entries one → Mends old new entries other → one ≡ other
mends_alike old new entries one other this that = same_tree one other (λ q. elim (cases_Bool (same (map.get entries q) (map.get old q))) [
  | inl was ↦ (let is = same_is (map.get entries q) (map.get old q) was in this.put q is ∙ sym (that.put q is))
  | inr not_same ↦ (let is = unlike (map.get entries q) (map.get old q) not_same in this.left q is ∙ sym (that.left q is))
])

-- what is left at a path depends on what was found there alone
pub mends_there : (old new one other left right : Entries) (path : List ℕ) → Mends old new one left → Mends old new other right → map.get other path ≡ map.get one path → map.get right path ≡ map.get left path
mends_there old new one other left right path this that alike = elim (cases_Bool (same (map.get one path) (map.get old path))) [
  | inl was ↦ (let is = same_is (map.get one path) (map.get old path) was in that.put path (alike ∙ is) ∙ sym (this.put path is))
  | inr not_same ↦ (
      let is = unlike (map.get one path) (map.get old path) not_same in
      that.left path (λ h. is (sym alike ∙ h)) ∙ alike ∙ sym (this.left path is))
]

module _ (replay : List ℕ → Entries) (found : KeptRoot) where
  -- a run was promised
  module _ (text : List ℕ) where
    abbrev pub steps : List Change
    steps = steps_between (replay found.history) (replay text)

    abbrev pub due_at : Entries → List Change
    due_at entries = due_steps (replay found.history) (replay text) entries

    -- what recovery leaves
    abbrev pub goal : Entries
    goal = mended (replay found.history) (replay text) found.entries

    -- the run is still promised, and some of the due steps are made
    pub record IsPartly (w : KeptRoot) : Type 0 where
      pub history : w.history ≡ found.history
      pub next : w.next ≡ Some text
      pub way : IsOnTheWay found.entries goal w.entries

    -- a failure leaves that, or the end
    abbrev IsLeft : KeptRoot → Type 0
    IsLeft w = IsPartly w ⊎ (w ≡ at_rest text goal)

    pub partly_recovery : (w : KeptRoot) → IsPartly w → recovery replay w ≡ finishing steps (due_at w.entries)
    partly_recovery w here =
        ap (recovery_of replay w) here.next
        ∙ ap (λ h. finishing (steps_between (replay h) (replay text)) (due_steps (replay h) (replay text) w.entries)) here.history

    pub partly_recovered : (w : KeptRoot) → IsPartly w → recovered replay w ≡ at_rest text goal
    partly_recovered w here =
        finishes replay w text here.next
        ∙ ap (λ h. at_rest text (after_changes (due_steps (replay h) (replay text) w.entries) w.entries)) here.history
        ∙ ap (at_rest text) (same_end (replay found.history) (replay text) found.entries w.entries here.way)

    left_recovered : (w : KeptRoot) → IsLeft w → recovered replay w ≡ at_rest text goal
    left_recovered w (inl here) = partly_recovered w here
    left_recovered w (inr same) = ap (recovered replay) same

    pub due_covered : (entries : Entries) → AreCovered steps (due_at entries)
    due_covered entries = covered-filter (is_due entries) steps steps (covered_all steps)

    still_partly : (cs : List Change) (w v : KeptRoot) → IsPartly w → StayOnTheWay found.entries goal cs → SomeMade found.entries goal cs w v → IsPartly v
    still_partly cs w v here stay made = record { history = made.history ∙ here.history; next = made.next ∙ here.next; way = made.way stay here.way }

    -- All steps are made and synced, and the history has changed behind them.
    pub record IsDone (events : List Event) (cs : List Change) (w left : KeptRoot) : Type 0 where
      pub changed : left ≡ at_rest text (after_changes cs w.entries)
      pub synced : (path : List ℕ) → has_path path steps ≡ true → list_any (syncs_path path) events ≡ true

    -- a failure leaves some of the steps made, or comes at the end
    failed : (n : ℕ) (cs : List Change) (w left : KeptRoot) → IsPartly w → AreCovered steps cs → StayOnTheWay found.entries goal cs
        → MayLeave w (take n (made_and_ended steps cs)) left → IsPartly left ⊎ IsDone (take n (made_and_ended steps cs)) cs w left
    failed n cs w left here covered stay h = elim (up_to n cs (ending Commit steps)) [
      | inl some ↦ (
          let made = makes found.entries goal (take some.0 cs) [] w left (subst (λ es. MayLeave w es left) some.1 h) in
          inl (subst IsPartly (sym made.2) (still_partly (take some.0 cs) w made.0 here (stay-take found.entries goal some.0 cs stay) made.1)))
      | inr all ↦ (
          let last : List Event = take all.0 (ending Commit steps) in
          let made = makes found.entries goal cs last w left (subst (λ es. MayLeave w es left) all.1 h) in
          let partly : IsPartly made.0 = still_partly cs w made.0 here stay made.1 in
          elim (ended Commit of_commit steps all.0 made.0 left made.2) [
            | inl same ↦ inl (subst IsPartly (sym same) partly)
            | inr changed ↦ inr (record {
              changed = changed.2 ∙ ap (committed made.0) partly.next
                  ∙ ap (at_rest text) (made.3 (subst (AllSynced cs) (sym changed.1) (covered_synced steps cs changed.0 covered)));
              synced = λ path has.
                  ap (list_any (syncs_path path)) all.1 ∙ any_makes path cs last ∙ ap (list_any (syncs_path path)) changed.1
                  ∙ ap (λ b. b || list_any (syncs_path path) changed.0) has;
            })
          ])
    ]

    -- with the texts synced, a run that was seen promised is promised
    still_promised : (seen v : KeptRoot) → IsPartly seen → IsLeft v → SameTexts v seen → IsPartly v
    still_promised seen v here (inl partly) texts = partly
    still_promised seen v here (inr same) texts = none_some v.next text (ap (λ w. w.next) same) (texts.1 ∙ here.next)

    still_ended : (v : KeptRoot) → IsLeft v → SameTexts v (at_rest text goal) → v ≡ at_rest text goal
    still_ended v (inl partly) texts = none_some v.next text texts.1 partly.next
    still_ended v (inr same) texts = same

    module _ (since : List Event) (base : KeptRoot) where
      -- what the next process finds
      abbrev seen : KeptRoot
      seen = after_all since base

      -- with the steps synced, the entries that were seen are there
      entries_left : (later : List Event) (v : KeptRoot) → IsPartly seen → IsPartly v → Kept since later base v
          → ((path : List ℕ) → has_path path steps ≡ true → list_any (syncs_path path) later ≡ true) → v.entries ≡ seen.entries
      entries_left later v here partly kept synced =
          same_between (replay found.history) (replay text) found.entries v.entries seen.entries partly.way here.way (λ path has. kept.entries path (synced path has))

      -- a failure of a recovery that found the run promised
      promised_left : (n : ℕ) (v left : KeptRoot) → IsPartly seen → IsLeft v → MayLeave v (take n (finishing steps (due_at seen.entries))) left
          → Kept since (take n (finishing steps (due_at seen.entries))) base v → IsLeft left
      promised_left zero v left here may h kept = subst IsLeft (sym h) may
      promised_left (suc zero) v left here may h kept = subst IsLeft (sym (behind_sync [] v left h)) may
      promised_left (suc (suc n)) v left here may h kept =
          let due : List Change = due_at seen.entries in
          let rest : List Event = take n (made_and_ended steps due) in
          let partly : IsPartly v = still_promised seen v here may (kept.texts refl) in
          let stay = stay_of found.entries goal due (due_put (replay found.history) (replay text) found.entries seen.entries here.way) in
          elim (failed n due v left partly (due_covered seen.entries) stay (behind_clear steps rest v left (behind_sync (Clear steps ∷ rest) v left h))) [
            | inl still ↦ inl still
            | inr end ↦ inr (
                end.changed
                ∙ ap (λ t. at_rest text (after_changes due t)) (entries_left (SyncHistory ∷ Clear steps ∷ rest) v here partly kept end.synced)
                ∙ ap (at_rest text) (same_end (replay found.history) (replay text) found.entries seen.entries here.way))
          ]

      -- a failure of a recovery leaves no more than what it found
      recovery_left : (n : ℕ) (v left : KeptRoot) → IsLeft seen → IsLeft v → MayLeave v (take n (recovery replay seen)) left
          → Kept since (take n (recovery replay seen)) base v → IsLeft left
      recovery_left n v left (inl here) may h kept =
          promised_left n v left here may (subst (λ es. MayLeave v (take n es) left) (partly_recovery seen here) h)
          (subst (λ es. Kept since (take n es) base v) (partly_recovery seen here) kept)
      recovery_left n v left (inr same) may h kept =
          subst IsLeft (sym (synced_only n v left (subst (λ w. MayLeave v (take n (recovery replay w)) left) same h))) may

      -- what a recovery leaves lasts
      recovery_lasts : (v left : KeptRoot) → IsLeft seen → IsLeft v → MayLeave v (recovery replay seen) left → Kept since (recovery replay seen) base v → left ≡ recovered replay seen
      recovery_lasts v left (inr same) may h kept =
          let rest = subst (λ w. MayLeave v (recovery replay w) left) same h in
          let texts : SameTexts v seen = (subst (λ w. Kept since (recovery replay w) base v) same kept).texts refl in
          synced_only (suc zero) v left rest ∙ still_ended v may (subst (SameTexts v) same texts) ∙ sym (ap (recovered replay) same)
      recovery_lasts v left (inl here) may h kept =
          let due : List Change = due_at seen.entries in
          let is = partly_recovery seen here in
          let all : Kept since (finishing steps due) base v = subst (λ es. Kept since es base v) is kept in
          let texts = all.texts refl in
          let synced : (path : List ℕ) → has_path path steps ≡ true → list_any (syncs_path path) (finishing steps due) ≡ true =
          λ path has. any_makes path due (ending Commit steps) ∙ ap (λ b. b || false) has in
          let same = entries_left (finishing steps due) v here (still_promised seen v here may texts) all synced in
          made_lasts steps due v left (due_covered seen.entries) (behind_clear steps (made_and_ended steps due) v left (behind_sync (Clear steps ∷ made_and_ended steps due) v left (subst (λ es. MayLeave v es left) is h)))
          ∙ ap (after_all (made_and_ended steps due)) (same_root v seen texts.0 texts.1 same)
          ∙ sym (ap (λ es. after_all es seen) is)

    module _ (promised : found.next ≡ Some text) where
      pub found_partly : IsPartly found
      found_partly = record { history = refl; next = promised; way = λ path. inl refl }

      -- whatever fails, all that may be left is that
      always_left : (base : KeptRoot) (since : List Event) → MayReach replay found (recovery replay found) base since → (left : KeptRoot) → MayLeave base since left → IsLeft left
      always_left base since (Killed n) left h =
          recovery_left [] found n found left (inl found_partly) (inl found_partly) h (record { entries = λ path synced. refl; texts = λ synced. (refl, refl) })
      always_left base since (KilledAgain same before n reach) left h =
          let may = always_left base before reach in
          let two = in_two before (take n (recovery replay (after_all before base))) base left h in
          recovery_left before base n two.0 left (may (after_all before base) (nothing_lost before base)) (may two.0 two.1) two.2 two.3
      always_left base since (PowerFailed before same events_before reach h) left now =
          subst IsLeft (sym now) (always_left before events_before reach base h)

      promised_ends : Ends replay found (recovery replay found) (λ left. left ≡ recovered replay found)
      promised_ends base since reach =
          let may = always_left base since reach in
          let now = may (after_all since base) (nothing_lost since base) in (
            left_recovered (after_all since base) now ∙ sym (partly_recovered found found_partly),
            λ left h.
                let two = in_two since (recovery replay (after_all since base)) base left h in
                recovery_lasts since base two.0 left now (may two.0 two.1) two.2 two.3,
          )

  -- none was promised
  module _ (none : found.next ≡ None) where
    pub only_syncs : recovery replay found ≡ SyncHistory ∷ []
    only_syncs = ap (recovery_of replay found) none

    pub found_rests : recovered replay found ≡ found
    found_rests = ap (λ es. after_all es found) only_syncs

    stays_found : (base : KeptRoot) (since : List Event) → MayReach replay found (recovery replay found) base since → (left : KeptRoot) → MayLeave base since left → left ≡ found
    stays_found base since (Killed n) left h = synced_only n found left (subst (λ es. MayLeave found (take n es) left) only_syncs h)
    stays_found base since (KilledAgain same before n reach) left h =
        let may = stays_found base before reach in
        let two = in_two before (take n (recovery replay (after_all before base))) base left h in
        let syncs = ap (recovery replay) (may (after_all before base) (nothing_lost before base)) ∙ only_syncs in
        synced_only n two.0 left (subst (λ es. MayLeave two.0 (take n es) left) syncs two.2) ∙ may two.0 two.1
    stays_found base since (PowerFailed before same events_before reach h) left now = now ∙ stays_found before events_before reach base h

    rest_ends : Ends replay found (recovery replay found) (λ left. left ≡ recovered replay found)
    rest_ends base since reach =
        let may = stays_found base since reach in
        let now : after_all since base ≡ found = may (after_all since base) (nothing_lost since base) in (
          ap (recovered replay) now,
          λ left h.
              let two = in_two since (recovery replay (after_all since base)) base left h in
              synced_only (suc zero) two.0 left (subst (λ es. MayLeave two.0 es left) (ap (recovery replay) now ∙ only_syncs) two.2)
              ∙ may two.0 two.1 ∙ sym (ap (recovered replay) now ∙ found_rests),
        )

  ends_of : (next : Option (List ℕ)) → found.next ≡ next → Ends replay found (recovery replay found) (λ left. left ≡ recovered replay found)
  ends_of None is = rest_ends is
  ends_of (Some text) is = promised_ends text is

  pub recovery_ends : Ends replay found (recovery replay found) (λ left. left ≡ recovered replay found)
  recovery_ends = ends_of found.next refl

  -- what recovery leaves is mended
  module _ (left : KeptRoot) (next : Option (List ℕ)) (is : found.next ≡ next) where
    mended_of : left ≡ at_rest (promised_or found.history next) left.entries → Mends (replay found.history) (replay (promised_or found.history next)) found.entries left.entries → IsMended replay found left
    mended_of rest this = record {
      rest = rest ∙ ap (λ o. at_rest (promised_or found.history o) left.entries) (sym is);
      mends = subst (λ o. Mends (replay found.history) (replay (promised_or found.history o)) found.entries left.entries) (sym is) this;
    }

  mended_by : (next : Option (List ℕ)) → found.next ≡ next → IsMended replay found (recovered replay found)
  mended_by None is =
      let same = found_rests is in
      subst (IsMended replay found) (sym same) (mended_of found None is (same_root found (at_rest found.history found.entries) refl is refl) (record { put = λ path was. was; left = λ path other. refl }))
  mended_by (Some text) is =
      let this = recovery_mends replay found text is in
      mended_of (recovered replay found) (Some text) is (same_root (recovered replay found) (at_rest text (recovered replay found).entries) this.0 this.1 refl) this.2

  pub recovered_mended : IsMended replay found (recovered replay found)
  recovered_mended = mended_by found.next refl

pub recoveries_mend : RecoveriesMend
recoveries_mend replay found base since reach =
    let ends = recovery_ends replay found base since reach in
    (subst (IsMended replay found) (sym ends.0) (recovered_mended replay found), ends.1)

pub roots_are_mended_in_one_way : MendedInOneWay
roots_are_mended_in_one_way replay found left this =
    let that = recovered_mended replay found in
    let same = mends_alike (replay found.history) (replay (promised_or found.history found.next)) found.entries left.entries (recovered replay found).entries this.mends that.mends in
    this.rest ∙ ap (at_rest (promised_or found.history found.next)) same ∙ sym that.rest
