-- Events in parts, each of which begins once all that was done before is on the disk.
use Rattle.std.proofs.Common.{◌≡◌, ℕ, zero, suc, List, [], ◌∷◌, ◌++◌, take, refl, sym, ap, ◌∙◌, subst, append_assoc, inl, inr}
use Rattle.std.specs.Prelude.{◌⊎◌}
use Rattle.std.proofs.lemmas.Bool.{true≢false}
use Rattle.link_tree.specs.declared.change.Change.{Change}
use Rattle.link_tree.specs.Trees.{Entries}
use Rattle.disk.specs.Events.{Event, Promise}
use Rattle.kept_history.specs.Roots.{KeptRoot, at_rest, after, after_all, MayLeave}
use Rattle.kept_history.specs.Runs.{run_events}
use Rattle.kept_history.specs.Recovery.{recovery, recovered, MayReach, Killed, KilledAgain, PowerFailed}
use Rattle.kept_history.specs.Laws.{IsEither}
use Rattle.kept_history.proofs.Staying.{covered_all}
use Rattle.kept_history.proofs.Losses.{in_two}
use Rattle.kept_history.proofs.Pending.{made_and_ended, made_lasts, behind_sync}
use Rattle.kept_history.proofs.Lasting as lasting
use Rattle.kept_laws.specs.Found.{Ends, due_history, IsWrite, IsChange, IsOneOf}
use Rattle.kept_laws.specs.Laws.{FoundRunsAreWhole}
use Rattle.kept_laws.proofs.Found.{recovery_ends, recovered_mended}

-- All of this is on the disk once it is done.
abbrev pub Lasts : KeptRoot → List Event → Type 0
Lasts root events = (left : KeptRoot) → MayLeave root events left → left ≡ after_all events root

-- up to some moment there is some of the first part, or all of it and some of the second
front_of : (n : ℕ) (xs ys : List Event) → (take n (xs ++ ys) ≡ take n xs) ⊎ ((k : ℕ) × (take n (xs ++ ys) ≡ xs ++ take k ys))
front_of n [] ys = inr (n, refl)
front_of zero (x ∷ xs) ys = inl refl
front_of (suc n) (x ∷ xs) ys = elim (front_of n xs ys) [
  | inl some ↦ inl (ap (λ es. x ∷ es) some)
  | inr all ↦ inr (all.0, ap (λ es. x ∷ es) all.1)
]

after-append : (xs ys : List Event) (root : KeptRoot) → after_all (xs ++ ys) root ≡ after_all ys (after_all xs root)
after-append [] ys root = refl
after-append (x ∷ xs) ys root = after-append xs ys (after x root)

module _ (replay : List ℕ → Entries) where
  -- what is so ends as it is
  pub ends_as : (root : KeptRoot) (events : List Event) (P Q : KeptRoot → Type 0) → ((left : KeptRoot) → P left → Q left) → Ends replay root events P → Ends replay root events Q
  ends_as root events P Q more ends base since reach =
      let end = ends base since reach in
      (more (recovered replay (after_all since base)) end.0, end.1)

  module _ (root : KeptRoot) (xs ys : List Event) (lasts : Lasts root xs) where
    -- where the second part begins
    abbrev between : KeptRoot
    between = after_all xs root

    -- The first part was done, and what followed is not on the disk yet.
    abbrev IsBehind : KeptRoot → List Event → Type 0
    IsBehind base since = (later : List Event) × (root ≡ base) × (xs ++ later ≡ since) × MayReach replay between ys between later

    abbrev IsIn : KeptRoot → List Event → Type 0
    IsIn base since = MayReach replay root xs base since ⊎ MayReach replay between ys base since ⊎ IsBehind base since

    again_behind : (later : List Event) (n : ℕ) → MayReach replay between ys between later → IsIn root ((xs ++ later) ++ take n (recovery replay (after_all (xs ++ later) root)))
    again_behind later n reach =
        let same = after-append xs later root in
        inr (inr (
          later ++ take n (recovery replay (after_all later between)),
          refl,
          sym (append_assoc xs later (take n (recovery replay (after_all later between)))) ∙ ap (λ w. (xs ++ later) ++ take n (recovery replay w)) (sym same),
          KilledAgain between later n reach,
        ))

    failed_behind : (later : List Event) (left : KeptRoot) → MayReach replay between ys between later → MayLeave root (xs ++ later) left → IsIn left []
    failed_behind later left reach h =
        let two = in_two xs later root left h in
        inr (inl (PowerFailed between left later reach (subst (λ w. MayLeave w later left) (lasts two.0 two.1) two.2)))

    in_parts : (base : KeptRoot) (since : List Event) → MayReach replay root (xs ++ ys) base since → IsIn base since
    in_parts base since (Killed n) = elim (front_of n xs ys) [
      | inl some ↦ inl (subst (λ es. MayReach replay root xs root es) (sym some) (Killed n))
      | inr all ↦ inr (inr (take all.0 ys, refl, sym all.1, Killed all.0))
    ]
    in_parts base since (KilledAgain same before n reach) = elim (in_parts base before reach) [
      | inl first ↦ inl (KilledAgain base before n first)
      | inr later ↦ elim later [
        | inl second ↦ inr (inl (KilledAgain base before n second))
        | inr behind ↦
            subst (λ b. IsIn b (before ++ take n (recovery replay (after_all before b)))) behind.1
            (subst (λ es. IsIn root (es ++ take n (recovery replay (after_all es root)))) behind.2 (again_behind behind.0 n behind.3))
      ]
    ]
    in_parts base since (PowerFailed before same earlier reach h) = elim (in_parts before earlier reach) [
      | inl first ↦ inl (PowerFailed before base earlier first h)
      | inr later ↦ elim later [
        | inl second ↦ inr (inl (PowerFailed before base earlier second h))
        | inr behind ↦ failed_behind behind.0 base behind.3
            (subst (λ es. MayLeave root es base) (sym behind.2) (subst (λ b. MayLeave b earlier base) (sym behind.1) h))
      ]
    ]

    module _ (P Q : KeptRoot → Type 0) (first : Ends replay root xs P) (second : Ends replay between ys Q) where
      -- what recovery leaves there is so, and lasts
      abbrev EndsAt : KeptRoot → List Event → Type 0
      EndsAt base since =
          (P (recovered replay (after_all since base)) ⊎ Q (recovered replay (after_all since base)))
          × ((left : KeptRoot) → MayLeave base (since ++ recovery replay (after_all since base)) left → left ≡ recovered replay (after_all since base))

      ends_behind : (later : List Event) → MayReach replay between ys between later → EndsAt root (xs ++ later)
      ends_behind later reach =
          let end = second between later reach in
          let same = after-append xs later root in (
            inr (subst (λ w. Q (recovered replay w)) (sym same) end.0),
            λ left h.
                let parts = ap (λ w. (xs ++ later) ++ recovery replay w) same ∙ append_assoc xs later (recovery replay (after_all later between)) in
                let two = in_two xs (later ++ recovery replay (after_all later between)) root left (subst (λ es. MayLeave root es left) parts h) in
                end.1 left (subst (λ w. MayLeave w (later ++ recovery replay (after_all later between)) left) (lasts two.0 two.1) two.2)
                ∙ sym (ap (recovered replay) same),
          )

      -- one part after the other
      pub part_by_part : Ends replay root (xs ++ ys) (λ left. P left ⊎ Q left)
      part_by_part base since reach = elim (in_parts base since reach) [
        | inl one ↦ (let end = first base since one in (inl end.0, end.1))
        | inr later ↦ elim later [
          | inl other ↦ (let end = second base since other in (inr end.0, end.1))
          | inr behind ↦
              subst (λ b. EndsAt b since) behind.1 (subst (EndsAt root) behind.2 (ends_behind behind.0 behind.3))
        ]
      ]

-- what a run has done lasts, whatever was there
run_lasts : (text : List ℕ) (steps : List Change) (root : KeptRoot) → Lasts root (run_events text steps)
run_lasts text steps root left (inl h) =
    let w : KeptRoot = after (Promise text) root in
    made_lasts steps steps w left (covered_all steps) (behind_sync (made_and_ended steps steps) w left h)
run_lasts text steps root left (inr h) = absurd (true≢false h.0)

module _ (replay : List ℕ → Entries) (found : KeptRoot) (noticed made : List ℕ) where
  abbrev rested : KeptRoot
  rested = recovered replay found

  abbrev old : List ℕ
  old = due_history found

  recovery_lasts : Lasts found (recovery replay found)
  recovery_lasts left h = (recovery_ends replay found found [] (Killed zero)).1 left h

  module _ (has_tree : replay noticed ≡ rested.entries) where
    -- at rest, with the tree of what was noticed
    rests : rested ≡ at_rest old (replay noticed)
    rests = (recovered_mended replay found).rest ∙ ap (at_rest old) (sym has_tree)

    -- the change leaves the one or the other
    changes : (change : List Event) → IsChange replay noticed made change → Ends replay (at_rest noticed (replay noticed)) change (IsEither replay noticed made (replay noticed))
    changes change (inl all) = subst (λ es. Ends replay (at_rest noticed (replay noticed)) es (IsEither replay noticed made (replay noticed))) (sym all) (lasting.runs_are_whole replay noticed made)
    changes change (inr some) = subst (λ es. Ends replay (at_rest noticed (replay noticed)) es (IsEither replay noticed made (replay noticed))) (sym some.1) (lasting.withdrawals_are_whole replay noticed made some.0)

    -- the write and the change, from what recovery left
    abbrev IsLater : KeptRoot → Type 0
    IsLater left = IsEither replay old noticed (replay noticed) left ⊎ IsEither replay noticed made (replay noticed) left

    later : (write change : List Event) → IsWrite old noticed write → Ends replay (at_rest noticed (replay noticed)) change (IsEither replay noticed made (replay noticed)) → Ends replay (at_rest old (replay noticed)) (write ++ change) IsLater
    later write change (inl writes) ends =
        subst (λ es. Ends replay (at_rest old (replay noticed)) (es ++ change) IsLater) (sym writes)
        (part_by_part replay (at_rest old (replay noticed)) (run_events noticed []) change (run_lasts noticed [] (at_rest old (replay noticed)))
        (IsEither replay old noticed (replay noticed)) (IsEither replay noticed made (replay noticed)) (lasting.writes_are_whole replay old noticed) ends)
    later write change (inr same) ends =
        subst (λ es. Ends replay (at_rest old (replay noticed)) (es ++ change) IsLater) (sym same.0)
        (subst (λ t. Ends replay (at_rest t (replay noticed)) change IsLater) same.1
        (ends_as replay (at_rest noticed (replay noticed)) change (IsEither replay noticed made (replay noticed)) IsLater (λ left is. inr is) ends))

    one_of : (left : KeptRoot) → (left ≡ rested) ⊎ IsLater left → IsOneOf replay found noticed made left
    one_of left (inl same) = inl same
    one_of left (inr (inl (inl same))) = inl (same ∙ sym rests)
    one_of left (inr (inl (inr same))) = inr (inl same)
    one_of left (inr (inr (inl same))) = inr (inl same)
    one_of left (inr (inr (inr same))) = inr (inr same)

    all_parts : (write change : List Event) → IsWrite old noticed write → IsChange replay noticed made change → Ends replay found (recovery replay found ++ (write ++ change)) (IsOneOf replay found noticed made)
    all_parts write change is_write is_change =
        ends_as replay found (recovery replay found ++ (write ++ change)) (λ left. (left ≡ rested) ⊎ IsLater left) (IsOneOf replay found noticed made) one_of
        (part_by_part replay found (recovery replay found) (write ++ change) recovery_lasts (λ left. left ≡ rested) IsLater (recovery_ends replay found)
        (subst (λ w. Ends replay w (write ++ change) IsLater) (sym rests) (later write change is_write (changes change is_change))))

pub found_runs_are_whole : FoundRunsAreWhole
found_runs_are_whole replay found noticed made events run =
    subst (λ es. Ends replay found es (IsOneOf replay found noticed made)) (sym run.in_order)
    (all_parts replay found noticed made run.has_tree run.write run.change run.writes run.changes)
