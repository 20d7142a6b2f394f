-- The pieces after one of them is changed.
use Rattle.std.proofs.Common.{Bool, ◌≡◌, ◌<◌, ◌≤◌, ◌+◌, ◌/◌, ℕ, zero, suc, true, false, not, T, List, [], ◌∷◌, ◌++◌, length, take, drop, Some, None, Result, Ok, Err, refl, sym, ap, subst, ◌∙◌, append-nil, arith}
use Rattle.std.specs.Prelude.{slice_get, slice_set, OnOk, OnErr, is_some}
use Rattle.std.specs.List.{insert, filter}
use Rattle.std.specs.Option.{option_map}
use Rattle.std.specs.Result.{IfOk}
use Rattle.std.specs.FinMap.{find, put, is_sorted}
use Rattle.std.specs.FinMap.Entries.{is_sorted-put, is_sorted-where_key}
use Rattle.std.specs.Cmp.Lexicographic.{nat_list_cmp_total}
use Rattle.std.specs.Ordering.{eq_by_cmp, is_le}
use Rattle.std.specs.declared.alloc.AllocError.{AllocError}
use Rattle.std.proofs.lemmas.Bool.{false≢true}
use Rattle.std.proofs.lemmas.List.{length-set, drop_all}
use Rattle.std.proofs.lemmas.List.Elements.{All-append, All-cons, All-set, All-take, All-drop, All-push}
use Rattle.link_tree.specs.Trees.{path_cmp}
use Rattle.link_tree.specs.Pieces.{Item, joined, before, behind, first_of, all_but_first, is_first, others, AllBelow, NoneIsEmpty, AreInOrder, IsSpot, Become}
use Rattle.link_tree.specs.declared.entry.Entry.{Entry}
use Rattle.link_tree.proofs.Maps.{none_some}
use Rattle.link_tree.proofs.Ends.{HasOne}
use Rattle.link_tree.proofs.Spots.{holds, truth, from_at, from_first, find_at, find_first, find_none, put_at, put_over, put_new, others_at, others_first, order_right}
use Rattle.link_tree.proofs.Rows.{found_within, within_found, parted, set_parted, joined-append, joined_at, behind_is, inserted, replaced, removed, gone, cut_in_two, behind_item, behind_none}

pub set_same : {X : Type 0} → (xs : List X) (i : ℕ) (x : X) → slice_get xs i ≡ Some x → slice_set xs i x ≡ xs
set_same xs i x is = set_parted xs i x x is ∙ sym (parted xs i x is)

-- consequences of a result
pub on_ok : {A E P Q : Type 0} → (r : Result A E) → (P → Q) → OnOk r P → OnOk r Q
on_ok (Ok value) f p = f p
on_ok (Err e) f p = tt

pub on_err : {A E P Q : Type 0} → (r : Result A E) → (P → Q) → OnErr r P → OnErr r Q
on_err (Ok value) f p = tt
on_err (Err e) f p = f p

pub if_ok : {A E : Type 0} {P Q : A → Type 0} → (r : Result A E) → ((value : A) → P value → Q value) → IfOk r P → IfOk r Q
if_ok (Ok value) f p = f value p
if_ok (Err e) f p = tt

module _ (ps : List (List Item)) (order : AreInOrder ps) where
  -- pieces that hold these entries are in order
  hold : (wanted : List Item) (new : List (List Item)) → T (is_sorted path_cmp wanted) → NoneIsEmpty new → joined new ≡ wanted → AreInOrder new × (joined new ≡ wanted)
  hold wanted new sorted some is = ((truth _ (subst (λ items. T (is_sorted path_cmp items)) (sym is) sorted), some), is)

  pub hold_put : (path : List ℕ) (entry : Entry) (new : List (List Item)) → NoneIsEmpty new → joined new ≡ put path_cmp path entry (joined ps) → AreInOrder new × (joined new ≡ put path_cmp path entry (joined ps))
  hold_put path entry new some is = hold _ new (is_sorted-put path_cmp nat_list_cmp_total path entry (joined ps) (holds order.0)) some is

  pub hold_others : (path : List ℕ) (new : List (List Item)) → NoneIsEmpty new → joined new ≡ others path (joined ps) → AreInOrder new × (joined new ≡ others path (joined ps))
  hold_others path new some is = hold _ new (is_sorted-where_key path_cmp (λ k. not (eq_by_cmp path_cmp path k)) (joined ps) (holds order.0)) some is

  pub hold_same : (new : List (List Item)) → NoneIsEmpty new → joined new ≡ joined ps → AreInOrder new × (joined new ≡ joined ps)
  hold_same new some is = hold _ new (holds order.0) some is

  -- one piece was changed, or is unchanged after an error
  pub set_becomes : {A : Type 0} (wanted : List Item) (r : Result A AllocError) (i : ℕ) (p new : List Item) → slice_get ps i ≡ Some p → OnErr r (new ≡ p) → OnOk r (AreInOrder (slice_set ps i new) × (joined (slice_set ps i new) ≡ wanted)) → Become ps (slice_set ps i new) wanted r
  set_becomes wanted (Ok value) i p new is err ok = ok
  set_becomes wanted (Err e) i p new is err ok =
      let same : slice_set ps i new ≡ ps = ap (slice_set ps i) err ∙ set_same ps i p is in
      (subst AreInOrder (sym same) order, ap joined same)

  -- an error that is passed on leaves the pieces unchanged
  pub unchanged : {A : Type 0} (wanted : List Item) (new : List (List Item)) → new ≡ ps → (e : AllocError) (r : Result A AllocError) → r ≡ Err e → Become ps new wanted r
  unchanged wanted new same e r is = subst (Become ps new wanted) (sym is) (subst AreInOrder (sym same) order, ap joined same)

  some_set : (i : ℕ) (q : List Item) → 0 < length q → NoneIsEmpty (slice_set ps i q)
  some_set i q some = All-set HasOne ps i q some order.1

  one_more : (bs cs : List Item) (x : Item) → 0 < length (bs ++ x ∷ cs)
  one_more [] cs x = omega arith
  one_more (b ∷ bs) cs x = omega arith

  module _ (path : List ℕ) (i at : ℕ) (spot : IsSpot path ps i at) where
    parts_order : T (is_sorted path_cmp (behind ps i at))
    parts_order = order_right (before ps i at) (behind ps i at) (subst (λ items. T (is_sorted path_cmp items)) (joined_at ps i at) (holds order.0))

    taken_inside : is_first path (behind ps i at) ≡ true → i < length ps
    taken_inside taken = elim (slice_get ps i) as (λ o. slice_get ps i ≡ o → i < length ps) [
      | Some p ↦ λ is. found_within ps i p is
      | None ↦ λ is. absurd (false≢true (ap (is_first path) (sym (behind_none ps i at is)) ∙ taken))
    ] refl

    pub taken_at : {n : ℕ} → n ≡ length ps → is_first path (behind ps i at) ≡ true → i < n
    taken_at len taken = subst (λ n. i < n) (sym len) (taken_inside taken)

    -- the entry at the path, if there is one
    pub found_there : is_first path (behind ps i at) ≡ true → find path_cmp path (joined ps) ≡ option_map (λ (item : Item). item.1) (first_of (behind ps i at))
    found_there taken = ap (find path_cmp path) (joined_at ps i at) ∙ find_at path (before ps i at) (behind ps i at) spot.below ∙ find_first path (behind ps i at) taken

    pub not_there : is_first path (behind ps i at) ≡ false → find path_cmp path (joined ps) ≡ None
    not_there free = ap (find path_cmp path) (joined_at ps i at) ∙ find_at path (before ps i at) (behind ps i at) spot.below ∙ find_none path (behind ps i at) parts_order spot.from free

    some_there : is_first path (behind ps i at) ≡ true → is_some (find path_cmp path (joined ps)) ≡ true
    some_there taken = ap is_some (found_there taken) ∙ first_some (behind ps i at) taken
      where
        first_some : (es : List Item) → is_first path es ≡ true → is_some (option_map (λ (item : Item). item.1) (first_of es)) ≡ true
        first_some [] first = absurd (false≢true first)
        first_some (e ∷ es) first = refl

    -- the entries at the path and after it
    pub from_there : filter (λ (item : Item). is_le (path_cmp path item.0)) (joined ps) ≡ behind ps i at
    from_there = ap (filter (λ (item : Item). is_le (path_cmp path item.0))) (joined_at ps i at) ∙ from_at path (before ps i at) (behind ps i at) spot.below ∙ from_first path (behind ps i at) parts_order spot.from

    -- if nothing is found at the path, the first entry is not at it
    free_there : find path_cmp path (joined ps) ≡ None → is_first path (behind ps i at) ≡ false
    free_there none = elim (behind ps i at) as (λ es. behind ps i at ≡ es → is_first path es ≡ false) [
      | [] ↦ λ is. refl
      | e ∷ es ↦ λ is. elim (eq_by_cmp path_cmp path e.0) as (λ b. eq_by_cmp path_cmp path e.0 ≡ b → eq_by_cmp path_cmp path e.0 ≡ false) [
        | true ↦ λ here. none_some e.1 (sym none ∙ found_there (ap (is_first path) is ∙ here) ∙ ap (λ (items : List Item). option_map (λ (item : Item). item.1) (first_of items)) is)
        | false ↦ λ off. off
      ] refl
    ] refl

    -- after the last piece: all entries come before the path
    pub all_below : slice_get ps i ≡ None → AllBelow path (joined ps)
    all_below is =
        subst (AllBelow path) (sym (joined_at ps i at ∙ ap (λ items. before ps i at ++ items) (behind_none ps i at is) ∙ append-nil (before ps i at))) spot.below

    put_there : (entry : Entry) → put path_cmp path entry (joined ps) ≡ before ps i at ++ put path_cmp path entry (behind ps i at)
    put_there entry = ap (put path_cmp path entry) (joined_at ps i at) ∙ put_at path entry (before ps i at) (behind ps i at) spot.below

    module _ (p : List Item) (is : slice_get ps i ≡ Some p) where
      there : (y : Item) × (slice_get p at ≡ Some y)
      there = within_found p at (spot.within p is)

      pub found_item : is_first path (behind ps i at) ≡ true → find path_cmp path (joined ps) ≡ option_map (λ (item : Item). item.1) (slice_get p at)
      found_item taken =
          found_there taken ∙ ap (λ items. option_map (λ (item : Item). item.1) (first_of items)) (behind_item ps i p is at there.0 there.1)
          ∙ ap (option_map (λ (item : Item). item.1)) (sym there.1)

      pub put_over_here : (entry : Entry) → is_first path (behind ps i at) ≡ true → AreInOrder (slice_set ps i (slice_set p at (path, entry))) × (joined (slice_set ps i (slice_set p at (path, entry))) ≡ put path_cmp path entry (joined ps))
      put_over_here entry taken =
          hold_put path entry _ (some_set i _ (subst (λ n. 0 < n) (sym (length-set p at (path, entry))) (let within = spot.within p is in omega arith)))
          (replaced ps i p is at there.0 there.1 (path, entry) ∙ ap (λ items. before ps i at ++ items) (sym (put_over path entry (behind ps i at) taken)) ∙ sym (put_there entry))

      pub put_new_here : (entry : Entry) → find path_cmp path (joined ps) ≡ None → AreInOrder (slice_set ps i (take at p ++ (path, entry) ∷ drop at p)) × (joined (slice_set ps i (take at p ++ (path, entry) ∷ drop at p)) ≡ put path_cmp path entry (joined ps))
      put_new_here entry none =
          hold_put path entry _ (some_set i _ (one_more (take at p) (drop at p) (path, entry)))
          (inserted ps i p is at (path, entry) ∙ ap (λ items. before ps i at ++ items) (sym (put_new path entry (behind ps i at) spot.from (free_there none))) ∙ sym (put_there entry))

      others_there : is_first path (behind ps i at) ≡ true → before ps i at ++ all_but_first (behind ps i at) ≡ others path (joined ps)
      others_there taken =
          ap (λ items. before ps i at ++ items) (sym (others_first path (behind ps i at) parts_order taken))
          ∙ sym (ap (others path) (joined_at ps i at) ∙ others_at path (before ps i at) (behind ps i at) spot.below)

      pub taken_out : is_first path (behind ps i at) ≡ true → 1 < length p → AreInOrder (slice_set ps i (take at p ++ drop (suc at) p)) × (joined (slice_set ps i (take at p ++ drop (suc at) p)) ≡ others path (joined ps))
      taken_out taken two =
          hold_others path _ (some_set i _ (one_less p at (spot.within p is) two)) (removed ps i p is at there.0 there.1 ∙ others_there taken)
        where
          one_less : (q : List Item) (n : ℕ) → n < length q → 1 < length q → 0 < length (take n q ++ drop (suc n) q)
          one_less [] n within two = absurd (omega arith)
          one_less (x ∷ q) zero within two = omega arith
          one_less (x ∷ q) (suc n) within two = omega arith

      pub gone_with_it : is_first path (behind ps i at) ≡ true → length p ≤ 1 → AreInOrder (take i ps ++ drop (suc i) ps) × (joined (take i ps ++ drop (suc i) ps) ≡ others path (joined ps))
      gone_with_it taken one =
          hold_others path _ (All-append HasOne (take i ps) (drop (suc i) ps) (All-take HasOne i ps order.1) (All-drop HasOne (suc i) ps order.1))
          (gone ps i p is at there.0 there.1 (let within = spot.within p is in omega arith) ∙ others_there taken)

  -- the result of a query about a spot, for the pieces as borrows show them
  module _ {path own : List ℕ} {i at : ℕ} {qs rs : List (List Item)} {taken : Bool} (of : own ≡ path) (first : qs ≡ ps) (second : rs ≡ ps) (spot : IsSpot own qs i at) (asked : taken ≡ is_first own (behind rs i at)) where
    here : IsSpot path ps i at
    here = subst (λ p. IsSpot p ps i at) of (subst (λ xs. IsSpot own xs i at) first spot)

    answered : is_first path (behind ps i at) ≡ taken
    answered = (λ j. is_first (sym of j) (behind (sym second j) i at)) ∙ sym asked

    pub found_free : taken ≡ false → find path_cmp path (joined ps) ≡ None
    found_free is = not_there path i at here (answered ∙ is)

    pub found_taken : taken ≡ true → is_some (find path_cmp path (joined ps)) ≡ true
    found_taken is = some_there path i at here (answered ∙ is)

  module _ (path : List ℕ) (entry : Entry) (below : AllBelow path (joined ps)) where
    put_last : put path_cmp path entry (joined ps) ≡ joined ps ++ (path, entry) ∷ []
    put_last = ap (put path_cmp path entry) (sym (append-nil (joined ps))) ∙ put_at path entry (joined ps) [] below

    -- an entry after all others: in the last piece, or as a piece of its own
    pub put_behind : AreInOrder (ps ++ ((path, entry) ∷ []) ∷ []) × (joined (ps ++ ((path, entry) ∷ []) ∷ []) ≡ put path_cmp path entry (joined ps))
    put_behind = hold_put path entry _ (All-push HasOne ps ((path, entry) ∷ []) order.1 (omega arith)) (joined-append ps (((path, entry) ∷ []) ∷ []) ∙ sym put_last)

    pub put_in_last : (i at : ℕ) (p : List Item) → slice_get ps i ≡ Some p → length ps ≤ suc i → length p ≤ at → AreInOrder (slice_set ps i (take at p ++ (path, entry) ∷ drop at p)) × (joined (slice_set ps i (take at p ++ (path, entry) ∷ drop at p)) ≡ put path_cmp path entry (joined ps))
    put_in_last i at p is last end =
        hold_put path entry _ (some_set i _ (one_more (take at p) (drop at p) (path, entry)))
        (inserted ps i p is at (path, entry) ∙ ap (λ items. before ps i at ++ (path, entry) ∷ items) nothing
        ∙ ap (λ items. items ++ (path, entry) ∷ []) (sym (joined_at ps i at ∙ ap (λ items. before ps i at ++ items) nothing ∙ append-nil (before ps i at))) ∙ sym put_last)
      where
        nothing : behind ps i at ≡ []
        nothing = behind_is ps i p is at ∙ ap (λ items. items ++ joined (drop (suc i) ps)) (drop_all at p end) ∙ ap joined (drop_all (suc i) ps last)

  -- a piece split in two between two of its entries
  pub cut_becomes : (i at : ℕ) (p : List Item) → slice_get ps i ≡ Some p → 0 < at → at < length p → AreInOrder (insert (slice_set ps i (take at p)) (i + 1) (drop at p)) × (joined (insert (slice_set ps i (take at p)) (i + 1) (drop at p)) ≡ joined ps)
  cut_becomes i at p is some within =
      subst (λ n. AreInOrder (insert (slice_set ps i (take at p)) n (drop at p)) × (joined (insert (slice_set ps i (take at p)) n (drop at p)) ≡ joined ps)) (let next : suc i ≡ i + 1 = omega arith in next)
      (subst (λ qs. AreInOrder qs × (joined qs ≡ joined ps)) (sym (parts ps i is)) (hold_same _ both_some (cut_in_two ps i p is at)))
    where
      parts : (qs : List (List Item)) (n : ℕ) → slice_get qs n ≡ Some p → insert (slice_set qs n (take at p)) (suc n) (drop at p) ≡ take n qs ++ (take at p ∷ drop at p ∷ drop (suc n) qs)
      parts [] n found = none_some p found
      parts (q ∷ qs) zero found = refl
      parts (q ∷ qs) (suc n) found = ap (λ rs. q ∷ rs) (parts qs n found)

      both_some : NoneIsEmpty (take i ps ++ (take at p ∷ drop at p ∷ drop (suc i) ps))
      both_some =
          All-append HasOne (take i ps) (take at p ∷ drop at p ∷ drop (suc i) ps) (All-take HasOne i ps order.1)
          (All-cons HasOne (take at p) (drop at p ∷ drop (suc i) ps) (some_taken p at some within) (All-cons HasOne (drop at p) (drop (suc i) ps) (some_dropped p at within) (All-drop HasOne (suc i) ps order.1)))
        where
          some_taken : (q : List Item) (n : ℕ) → 0 < n → n < length q → 0 < length (take n q)
          some_taken q zero more inside = absurd (omega arith)
          some_taken [] (suc n) more inside = absurd (omega arith)
          some_taken (x ∷ q) (suc n) more inside = omega arith

          some_dropped : (q : List Item) (n : ℕ) → n < length q → 0 < length (drop n q)
          some_dropped q zero inside = inside
          some_dropped [] (suc n) inside = absurd (omega arith)
          some_dropped (x ∷ q) (suc n) inside = some_dropped q n (omega arith)

pub inside_half : (n m : ℕ) → 2 ≤ n → m ≡ n / 2 → (0 < m) × (m < n)
inside_half n m two half = (omega arith, omega arith)

pub at_end : {n m : ℕ} → n ≡ m → m ≤ n
at_end same = omega arith

-- the first entry is at another path, or there is none
pub not_first : (path : List ℕ) (items : List Item) → first_of items ≡ None → is_first path items ≡ false
not_first path [] none = refl
not_first path (item ∷ items) none = none_some item (sym none)
