-- The place of a path: in a piece, and among the pieces by their last entries.
use Rattle.std.proofs.Common.{◌≡◌, ◌<◌, ◌≤◌, ◌-◌, ℕ, zero, suc, Bool, true, false, T, List, [], ◌∷◌, ◌++◌, length, take, drop, Some, None, refl, sym, ap, subst, ◌∙◌, append-nil, append_assoc, ◌⊎◌, inl, inr, arith}
use Rattle.std.specs.Prelude.{slice_get, slice_index_or}
use Rattle.std.specs.List.{AllWithin}
use Rattle.std.specs.List.Sorted.{IsPartitionedBy, IsPartitionPoint}
use Rattle.std.specs.Option.{option_map_or}
use Rattle.std.specs.Ordering.{is_lt}
use Rattle.std.specs.Cmp.Lexicographic.{nat_list_cmp_total}
use Rattle.std.specs.declared.cmp.Ordering.TheVariants.{Less}
use Rattle.std.specs.FinMap.{is_sorted}
use Rattle.std.specs.FinMap.Entries.{below_all}
use Rattle.std.proofs.lemmas.Bool.{cases_Bool, false≢true}
use Rattle.std.proofs.lemmas.List.{take_all, take-append-drop}
use Rattle.std.proofs.lemmas.List.Elements.{All-append, All-cons, All-head, All-tail, All-nil, All-get_or}
use Rattle.link_tree.specs.Trees.{path_cmp}
use Rattle.link_tree.specs.Pieces.{Item, joined, ends_before, AllBelow, StartsFrom, NoneIsEmpty, AreInOrder, IsFirstFrom, IsSpot}
use Rattle.link_tree.proofs.Maps.{first, second, less, none_some}
use Rattle.link_tree.proofs.Spots.{IsBefore, holds, truth, order_left, order_right, before_entry}
use Rattle.link_tree.proofs.Rows.{joined-append, found_within, found_index, before_is, behind_is, behind_none, joined_parts}

abbrev pub is_below : List ℕ → Item → Bool
is_below path item = is_lt (path_cmp item.0 path)

abbrev pub HasOne : List Item → Type 0
HasOne piece = 0 < length piece

module _ (path : List ℕ) where
  through : (k l : List ℕ) → path_cmp k l ≡ Less → is_lt (path_cmp l path) ≡ true → is_lt (path_cmp k path) ≡ true
  through k l lower is = ap is_lt (nat_list_cmp_total.trans k l path lower (less _ (holds is)))

  below_item : (k : List ℕ) (es : List Item) (j : ℕ) (d : Item) → T (below_all path_cmp k es) → j < length es → path_cmp k (slice_index_or es j d).0 ≡ Less
  below_item k [] j d above within = absurd (omega arith)
  below_item k (e ∷ es) zero d above within = less _ (first _ _ above)
  below_item k (e ∷ es) (suc j) d above within = below_item k es j d (second _ _ above) (omega arith)

  -- the entries before the path come first
  pub items_parted : (es : List Item) → T (is_sorted path_cmp es) → IsPartitionedBy (is_below path) es
  items_parted [] order i j d upto within is = absurd (omega arith)
  items_parted (e ∷ es) order zero zero d upto within is = is
  items_parted (e ∷ es) order zero (suc j) d upto within is = through e.0 (slice_index_or es j d).0 (below_item e.0 es j d (first _ _ order) (omega arith)) is
  items_parted (e ∷ es) order (suc i) zero d upto within is = absurd (omega arith)
  items_parted (e ∷ es) order (suc i) (suc j) d upto within is = items_parted es (second _ _ order) i j d (omega arith) (omega arith) is

  pub taken_below : (es : List Item) (n : ℕ) → n ≤ length es → AllWithin (λ item. is_below path item ≡ true) es 0 n → AllBelow path (take n es)
  taken_below es zero upto all = All-nil (IsBefore path)
  taken_below [] (suc n) upto all = All-nil (IsBefore path)
  taken_below (e ∷ es) (suc n) upto all =
      All-cons (IsBefore path) e (take n es) (all 0 e (omega arith) (omega arith)) (taken_below es n (omega arith) (λ k d low high. all (suc k) d (omega arith) (omega arith)))

  pub dropped_from : (es : List Item) (n : ℕ) → AllWithin (λ item. is_below path item ≡ false) es n (length es) → StartsFrom path (drop n es)
  dropped_from [] zero all = tt
  dropped_from (e ∷ es) zero all = all 0 e (omega arith) (omega arith)
  dropped_from [] (suc n) all = tt
  dropped_from (e ∷ es) (suc n) all = dropped_from es n (λ k d low high. all (suc k) d (omega arith) (omega arith))

  abbrev last_is_below : List Item → ℕ → Bool
  last_is_below es n = option_map_or (is_below path) (slice_get es n) false

  last_more : (e f : Item) (es : List Item) → ends_before path (e ∷ f ∷ es) ≡ ends_before path (f ∷ es)
  last_more e f es =
      ap (last_is_below (e ∷ f ∷ es)) (let n : length (e ∷ f ∷ es) - 1 ≡ suc (length es) = omega arith in n)
      ∙ ap (last_is_below (f ∷ es)) (let n : length es ≡ length (f ∷ es) - 1 = omega arith in n)

  -- if the last entry comes before the path, all do
  pub ends_all : (es : List Item) → T (is_sorted path_cmp es) → ends_before path es ≡ true → AllBelow path es
  ends_all [] order is = All-nil (IsBefore path)
  ends_all (e ∷ []) order is = All-cons (IsBefore path) e [] is (All-nil (IsBefore path))
  ends_all (e ∷ f ∷ es) order is =
      let rest = ends_all (f ∷ es) (second _ _ order) (sym (last_more e f es) ∙ is) in
      All-cons (IsBefore path) e (f ∷ es) (through e.0 f.0 (less _ (first _ _ (first _ _ order))) (All-head (IsBefore path) f es rest)) rest

  pub all_end : (es : List Item) → AllBelow path es → 0 < length es → ends_before path es ≡ true
  all_end [] all some = absurd (omega arith)
  all_end (e ∷ []) all some = All-head (IsBefore path) e [] all
  all_end (e ∷ f ∷ es) all some = last_more e f es ∙ all_end (f ∷ es) (All-tail (IsBefore path) e (f ∷ es) all) (omega arith)

  all_left : (bs cs : List Item) → AllBelow path (bs ++ cs) → AllBelow path bs
  all_left [] cs all = All-nil (IsBefore path)
  all_left (b ∷ bs) cs all = All-cons (IsBefore path) b bs (All-head (IsBefore path) b (bs ++ cs) all) (all_left bs cs (All-tail (IsBefore path) b (bs ++ cs) all))

  -- entries before a list of entries that are before the path are also before it
  all_before : (bs cs : List Item) → T (is_sorted path_cmp (bs ++ cs)) → AllBelow path cs → 0 < length cs → AllBelow path (bs ++ cs)
  all_before bs [] order all some = absurd (omega arith)
  all_before bs (c ∷ cs) order all some = All-append (IsBefore path) bs (c ∷ cs) (before_entry path bs c cs order (All-head (IsBefore path) c cs all)) all

  -- all pieces before a piece that ends before the path also end before it
  upto_end : (ps : List (List Item)) (j : ℕ) (d : List Item) → T (is_sorted path_cmp (joined ps)) → NoneIsEmpty ps → j < length ps → ends_before path (slice_index_or ps j d) ≡ true → AllBelow path (joined (take (suc j) ps))
  upto_end [] j d order some within is = absurd (omega arith)
  upto_end (p ∷ ps) zero d order some within is =
      subst (AllBelow path) (sym (append-nil p)) (ends_all p (order_left p (joined ps) order) is)
  upto_end (p ∷ []) (suc j) d order some within is = absurd (omega arith)
  upto_end (p ∷ q ∷ ps) (suc j) d order some within is =
      let rest = upto_end (q ∷ ps) j d (order_right p (joined (q ∷ ps)) order) (All-tail HasOne p (q ∷ ps) some) (omega arith) is in
      all_before p (q ++ joined (take j ps)) (upto_order p q ps j order) rest (long q (joined (take j ps)) (All-head HasOne q ps (All-tail HasOne p (q ∷ ps) some)))
    where
      long : (bs cs : List Item) → 0 < length bs → 0 < length (bs ++ cs)
      long [] cs some = absurd (omega arith)
      long (b ∷ bs) cs some = omega arith

      all_parts : (p q : List Item) (ps : List (List Item)) (j : ℕ) → p ++ (q ++ joined ps) ≡ (p ++ (q ++ joined (take j ps))) ++ joined (drop j ps)
      all_parts p q ps j =
          ap (λ items. p ++ (q ++ items)) (ap joined (sym (take-append-drop j ps)) ∙ joined-append (take j ps) (drop j ps))
          ∙ ap (λ items. p ++ items) (sym (append_assoc q (joined (take j ps)) (joined (drop j ps))))
          ∙ sym (append_assoc p (q ++ joined (take j ps)) (joined (drop j ps)))

      upto_order : (p q : List Item) (ps : List (List Item)) (j : ℕ) → T (is_sorted path_cmp (p ++ (q ++ joined ps))) → T (is_sorted path_cmp (p ++ (q ++ joined (take j ps))))
      upto_order p q ps j order =
          order_left (p ++ (q ++ joined (take j ps))) (joined (drop j ps)) (subst (λ items. T (is_sorted path_cmp items)) (all_parts p q ps j) order)

  -- the pieces that end before the path come first
  pub pieces_parted : (ps : List (List Item)) → T (is_sorted path_cmp (joined ps)) → NoneIsEmpty ps → IsPartitionedBy (ends_before path) ps
  pieces_parted [] order some i j d upto within is = absurd (omega arith)
  pieces_parted (p ∷ ps) order some zero j d upto within is =
      all_end p (all_left p (joined (take j ps)) (upto_end (p ∷ ps) j d order some within is)) (All-head HasOne p ps some)
  pieces_parted (p ∷ ps) order some (suc i) zero d upto within is = absurd (omega arith)
  pieces_parted (p ∷ ps) order some (suc i) (suc j) d upto within is =
      pieces_parted ps (order_right p (joined ps) order) (All-tail HasOne p ps some) i j d (omega arith) (omega arith) is

  -- a piece that doesn't end before the path, right after one that does, is the first
  module _ (ps : List (List Item)) (order : AreInOrder ps) where
    pub ends_upto : (i j : ℕ) (p : List Item) → i ≡ suc j → slice_get ps j ≡ Some p → ends_before path p ≡ true → AllWithin (λ piece. ends_before path piece ≡ true) ps 0 i
    ends_upto i j p next is ends k d low high =
        let inside = found_within ps j p is in
        pieces_parted ps (holds order.0) order.1 k j d (omega arith) inside (ap (ends_before path) (found_index ps j p d is) ∙ ends)

    pub first_from : (i : ℕ) → i ≤ length ps → AllWithin (λ piece. ends_before path piece ≡ true) ps 0 i → (i < length ps → (p : List Item) × (slice_get ps i ≡ Some p) × (ends_before path p ≡ false)) → IsFirstFrom path ps i
    first_from i upto before here = (upto, (before, λ k d low high. later k d low high))
      where
        later : (k : ℕ) (d : List Item) → i ≤ k → k < length ps → ends_before path (slice_index_or ps k d) ≡ false
        later k d low high = elim (cases_Bool (ends_before path (slice_index_or ps k d))) [
          | inl ends ↦ (let own = here (omega arith) in
              absurd (false≢true (sym own.2 ∙ ap (ends_before path) (sym (found_index ps i own.0 d own.1)) ∙ pieces_parted ps (holds order.0) order.1 i k d low high ends)))
          | inr from ↦ from
        ]

  earlier_below : (ps : List (List Item)) (n : ℕ) → T (is_sorted path_cmp (joined ps)) → NoneIsEmpty ps → n ≤ length ps → AllWithin (λ piece. ends_before path piece ≡ true) ps 0 n → AllBelow path (joined (take n ps))
  earlier_below ps zero order some upto all = All-nil (IsBefore path)
  earlier_below ps (suc n) order some upto all = upto_end ps n [] order some (omega arith) (all n [] (omega arith) (omega arith))

  below_or_all : (n m : ℕ) → n ≤ m → (n < m) ⊎ (n ≡ m)
  below_or_all zero zero upto = inr refl
  below_or_all zero (suc m) upto = inl (omega arith)
  below_or_all (suc n) zero upto = absurd (omega arith)
  below_or_all (suc n) (suc m) upto = elim (below_or_all n m (omega arith)) [ inl lower ↦ inl (omega arith) | inr same ↦ inr (ap suc same) ]

  some_left : (n : ℕ) (es : List Item) → n < length es → 0 < length (drop n es)
  some_left zero es within = within
  some_left (suc n) [] within = absurd (omega arith)
  some_left (suc n) (e ∷ es) within = some_left n es (omega arith)

  module _ (ps : List (List Item)) (i : ℕ) (order : AreInOrder ps) (upto : i ≤ length ps) (point : IsPartitionPoint (λ piece. ends_before path piece ≡ true) (λ piece. ends_before path piece ≡ false) ps i) where
    -- the place in the first piece that doesn't end before the path
    pub spot_inside : (at : ℕ) (p : List Item) → slice_get ps i ≡ Some p → at ≤ length p → AllBelow path (take at p) → StartsFrom path (drop at p) → IsSpot path ps i at
    spot_inside at p is bound below from = record {
      below = subst (AllBelow path) (sym (before_is ps i p is at)) (All-append (IsBefore path) (joined (take i ps)) (take at p) (earlier_below ps i (holds order.0) order.1 upto point.0) below);
      from = subst (StartsFrom path) (sym (behind_is ps i p is at)) (starts (drop at p) from (some_left at p inside));
      within = λ q there. subst (λ r. at < length r) (same_piece q there) inside;
    }
      where
        same_piece : (q : List Item) → slice_get ps i ≡ Some q → p ≡ q
        same_piece q there = sym (found_index ps i p [] is) ∙ found_index ps i q [] there

        ends : ends_before path p ≡ false
        ends = ap (ends_before path) (sym (found_index ps i p [] is)) ∙ point.1 i [] (omega arith) (found_within ps i p is)

        long : 0 < length p
        long = subst (λ q. 0 < length q) (found_index ps i p [] is) (All-get_or HasOne ps i [] (found_within ps i p is) order.1)

        inside : at < length p
        inside = elim (below_or_all at (length p) bound) [
          | inl lower ↦ lower
          | inr all ↦ absurd (false≢true (sym ends ∙ all_end p (subst (AllBelow path) (take_all at p (omega arith)) below) long))
        ]

        starts : (bs : List Item) → StartsFrom path bs → 0 < length bs → StartsFrom path (bs ++ joined (drop (suc i) ps))
        starts [] from more = absurd (omega arith)
        starts (b ∷ bs) from more = from

    -- the place after all pieces
    pub spot_behind : slice_get ps i ≡ None → IsSpot path ps i 0
    spot_behind is = record {
      below = All-append (IsBefore path) (joined (take i ps)) [] (earlier_below ps i (holds order.0) order.1 upto point.0) (All-nil (IsBefore path));
      from = subst (StartsFrom path) (sym (behind_none ps i 0 is)) tt;
      within = λ q there. none_some q (sym is ∙ there);
    }

-- a piece of those in order is in order
pub piece_order : (ps : List (List Item)) (i : ℕ) (p : List Item) → AreInOrder ps → slice_get ps i ≡ Some p → is_sorted path_cmp p ≡ true
piece_order ps i p order is =
    let parts = subst (λ items. T (is_sorted path_cmp items)) (joined_parts ps i p is) (holds order.0) in
    truth _ (order_left p (joined (drop (suc i) ps)) (order_right (joined (take i ps)) (p ++ joined (drop (suc i) ps)) parts))
