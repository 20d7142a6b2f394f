-- Entries in order, viewed from the place of a path.
use Rattle.std.proofs.Common.{◌≡◌, ℕ, Bool, true, false, cond, not, T, List, [], ◌∷◌, ◌++◌, Some, None, refl, sym, ap, subst, ◌∙◌}
use Rattle.std.specs.List.{filter}
use Rattle.std.specs.Option.{option_map}
use Rattle.std.specs.Ordering.{eq_by_cmp, is_lt, is_le, is_eq, ordering_reverse}
use Rattle.std.specs.Cmp.Lexicographic.{nat_list_cmp_total}
use Rattle.std.specs.FinMap.{find, put, is_sorted}
use Rattle.std.specs.FinMap.Entries.{below_all, by_order}
use Rattle.std.specs.declared.cmp.Ordering.{Ordering}
use Rattle.std.specs.declared.cmp.Ordering.TheVariants.{Less, Equal, Greater}
use Rattle.std.proofs.lemmas.Bool.{false≢true}
use Rattle.std.proofs.lemmas.List.Elements.{All-head, All-tail, All-nil, All-cons}
use Rattle.std.proofs.lemmas.Map.Lookups.{exact_bytes}
use Rattle.link_tree.specs.Trees.{path_cmp}
use Rattle.link_tree.specs.Pieces.{Item, first_of, all_but_first, is_first, others, AllBelow, StartsFrom}
use Rattle.link_tree.specs.declared.entry.Entry.{Entry}
use Rattle.link_tree.proofs.Maps.{both, first, second, less, is_equal, none_below, none_some}

-- the entry comes before the path
abbrev pub IsBefore : List ℕ → Item → Type 0
IsBefore path item = is_lt (path_cmp item.0 path) ≡ true

pub holds : {b : Bool} → b ≡ true → T b
holds is = subst T (sym is) tt

pub truth : (b : Bool) → T b → b ≡ true
truth true h = refl
truth false h = absurd h

lower : {r : Ordering} → is_lt r ≡ true → r ≡ Less
lower is = less _ (holds is)

turned : (k path : List ℕ) → path_cmp k path ≡ Less → path_cmp path k ≡ Greater
turned k path is = nat_list_cmp_total.antisymm path k ∙ ap ordering_reverse is

-- an entry before the path is at another path
pub elsewhere : (path : List ℕ) (item : Item) → is_lt (path_cmp item.0 path) ≡ true → path_cmp path item.0 ≡ Greater
elsewhere path item is = turned item.0 path (lower is)

module _ (path : List ℕ) where
  pub find_at : (bs cs : List Item) → AllBelow path bs → find path_cmp path (bs ++ cs) ≡ find path_cmp path cs
  find_at [] cs below = refl
  find_at (b ∷ bs) cs below =
      ap (λ r. cond (is_eq r) (Some b.1) (find path_cmp path (bs ++ cs))) (elsewhere path b (All-head (IsBefore path) b bs below))
      ∙ find_at bs cs (All-tail (IsBefore path) b bs below)

  pub put_at : (entry : Entry) (bs cs : List Item) → AllBelow path bs → put path_cmp path entry (bs ++ cs) ≡ bs ++ put path_cmp path entry cs
  put_at entry [] cs below = refl
  put_at entry (b ∷ bs) cs below =
      ap (λ r. by_order r ((path, entry) ∷ b ∷ (bs ++ cs)) ((b.0, entry) ∷ (bs ++ cs)) (b ∷ put path_cmp path entry (bs ++ cs))) (elsewhere path b (All-head (IsBefore path) b bs below))
      ∙ ap (λ items. b ∷ items) (put_at entry bs cs (All-tail (IsBefore path) b bs below))

  pub others_at : (bs cs : List Item) → AllBelow path bs → others path (bs ++ cs) ≡ bs ++ others path cs
  others_at [] cs below = refl
  others_at (b ∷ bs) cs below =
      ap (λ r. cond (not (is_eq r)) (b ∷ others path (bs ++ cs)) (others path (bs ++ cs))) (elsewhere path b (All-head (IsBefore path) b bs below))
      ∙ ap (λ items. b ∷ items) (others_at bs cs (All-tail (IsBefore path) b bs below))

  abbrev pub is_from : Item → Bool
  is_from item = is_le (path_cmp path item.0)

  pub from_at : (bs cs : List Item) → AllBelow path bs → filter is_from (bs ++ cs) ≡ filter is_from cs
  from_at [] cs below = refl
  from_at (b ∷ bs) cs below =
      ap (λ r. cond (is_le r) (b ∷ filter is_from (bs ++ cs)) (filter is_from (bs ++ cs))) (elsewhere path b (All-head (IsBefore path) b bs below))
      ∙ from_at bs cs (All-tail (IsBefore path) b bs below)

  -- the first entry at the path or after it, and all after it
  from_lower : (k : List ℕ) → is_lt (path_cmp k path) ≡ false → is_le (path_cmp path k) ≡ true
  from_lower k is = elim (path_cmp k path) as (λ r. path_cmp k path ≡ r → is_lt r ≡ false → is_le (path_cmp path k) ≡ true) [
    | Less ↦ λ at off. absurd (false≢true (sym off))
    | Equal ↦ λ at off. ap is_le (nat_list_cmp_total.antisymm path k ∙ ap ordering_reverse at)
    | Greater ↦ λ at off. ap is_le (nat_list_cmp_total.antisymm path k ∙ ap ordering_reverse at)
  ] refl is

  after_first : (k : List ℕ) (es : List Item) → is_le (path_cmp path k) ≡ true → T (below_all path_cmp k es) → T (below_all path_cmp path es)
  after_first k [] from above = tt
  after_first k (e ∷ es) from above =
      both _ _ (subst (λ r. T (is_lt r)) (sym (lower_through (path_cmp path k) refl from)) tt) (after_first k es from (second _ _ above))
    where
      lower_through : (r : Ordering) → path_cmp path k ≡ r → is_le r ≡ true → path_cmp path e.0 ≡ Less
      lower_through Less at le = nat_list_cmp_total.trans path k e.0 at (less _ (first _ _ above))
      lower_through Equal at le = nat_list_cmp_total.congr path k e.0 at ∙ less _ (first _ _ above)
      lower_through Greater at le = absurd (false≢true le)

  all_from : (es : List Item) → T (below_all path_cmp path es) → filter is_from es ≡ es
  all_from [] above = refl
  all_from (e ∷ es) above =
      ap (λ r. cond (is_le r) (e ∷ filter is_from es) (filter is_from es)) (less _ (first _ _ above)) ∙ ap (λ items. e ∷ items) (all_from es (second _ _ above))

  pub from_first : (cs : List Item) → T (is_sorted path_cmp cs) → StartsFrom path cs → filter is_from cs ≡ cs
  from_first [] order from = refl
  from_first (c ∷ cs) order from =
      let here = from_lower c.0 from in
      ap (λ b. cond b (c ∷ filter is_from cs) (filter is_from cs)) here ∙ ap (λ items. c ∷ items) (all_from cs (after_first c.0 cs here (first _ _ order)))

  -- if the path is not at the first entry, it is nowhere after it
  not_first : (c : Item) (cs : List Item) → is_lt (path_cmp c.0 path) ≡ false → eq_by_cmp path_cmp path c.0 ≡ false → path_cmp path c.0 ≡ Less
  not_first c cs from off = elim (path_cmp path c.0) as (λ r. path_cmp path c.0 ≡ r → is_eq r ≡ false → r ≡ Less) [
    | Less ↦ λ at o. refl
    | Equal ↦ λ at o. absurd (false≢true (sym o))
    | Greater ↦ λ at o. absurd (false≢true (sym from ∙ ap is_lt (nat_list_cmp_total.antisymm c.0 path ∙ ap ordering_reverse at)))
  ] refl off

  pub find_none : (cs : List Item) → T (is_sorted path_cmp cs) → StartsFrom path cs → is_first path cs ≡ false → find path_cmp path cs ≡ None
  find_none [] order from off = refl
  find_none (c ∷ cs) order from off =
      let before : path_cmp path c.0 ≡ Less = not_first c cs from off in
      none_below path (c ∷ cs) (both _ _ (subst (λ r. T (is_lt r)) (sym before) tt) (after_first c.0 cs (ap is_le before) (first _ _ order)))

  pub find_first : (cs : List Item) → is_first path cs ≡ true → find path_cmp path cs ≡ option_map (λ (item : Item). item.1) (first_of cs)
  find_first [] is = absurd (false≢true is)
  find_first (c ∷ cs) is = ap (λ b. cond b (Some c.1) (find path_cmp path cs)) is

  pub put_over : (entry : Entry) (cs : List Item) → is_first path cs ≡ true → put path_cmp path entry cs ≡ (path, entry) ∷ all_but_first cs
  put_over entry [] is = absurd (false≢true is)
  put_over entry (c ∷ cs) is =
      let at = is_equal (path_cmp path c.0) is in
      ap (λ r. by_order r ((path, entry) ∷ c ∷ cs) ((c.0, entry) ∷ cs) (c ∷ put path_cmp path entry cs)) at
      ∙ ap (λ k. (k, entry) ∷ cs) (sym (exact_bytes path c.0 at))

  pub put_new : (entry : Entry) (cs : List Item) → StartsFrom path cs → is_first path cs ≡ false → put path_cmp path entry cs ≡ (path, entry) ∷ cs
  put_new entry [] from off = refl
  put_new entry (c ∷ cs) from off =
      ap (λ r. by_order r ((path, entry) ∷ c ∷ cs) ((c.0, entry) ∷ cs) (c ∷ put path_cmp path entry cs)) (not_first c cs from off)

  others_above : (es : List Item) → T (below_all path_cmp path es) → others path es ≡ es
  others_above [] above = refl
  others_above (e ∷ es) above =
      ap (λ r. cond (not (is_eq r)) (e ∷ others path es) (others path es)) (less _ (first _ _ above)) ∙ ap (λ items. e ∷ items) (others_above es (second _ _ above))

  pub others_first : (cs : List Item) → T (is_sorted path_cmp cs) → is_first path cs ≡ true → others path cs ≡ all_but_first cs
  others_first [] order is = refl
  others_first (c ∷ cs) order is =
      let at = is_equal (path_cmp path c.0) is in
      ap (λ b. cond (not b) (c ∷ others path cs) (others path cs)) is ∙ others_above cs (after_first c.0 cs (ap is_le at) (first _ _ order))

-- the parts of entries in order are in order
pub order_left : (bs cs : List Item) → T (is_sorted path_cmp (bs ++ cs)) → T (is_sorted path_cmp bs)
order_left [] cs order = tt
order_left (b ∷ bs) cs order = both _ _ (below_left bs (first _ _ order)) (order_left bs cs (second _ _ order))
  where
    below_left : (es : List Item) → T (below_all path_cmp b.0 (es ++ cs)) → T (below_all path_cmp b.0 es)
    below_left [] h = tt
    below_left (e ∷ es) h = both _ _ (first _ _ h) (below_left es (second _ _ h))

pub order_right : (bs cs : List Item) → T (is_sorted path_cmp (bs ++ cs)) → T (is_sorted path_cmp cs)
order_right [] cs order = order
order_right (b ∷ bs) cs order = order_right bs cs (second _ _ order)

-- an entry that comes before an entry before the path is also before the path
pub before_entry : (path : List ℕ) (bs : List Item) (c : Item) (cs : List Item) → T (is_sorted path_cmp (bs ++ c ∷ cs)) → is_lt (path_cmp c.0 path) ≡ true → AllBelow path bs
before_entry path [] c cs order is = All-nil (IsBefore path)
before_entry path (b ∷ bs) c cs order is =
    All-cons (IsBefore path) b bs (ap is_lt (nat_list_cmp_total.trans b.0 c.0 path (below_there bs (first _ _ order)) (lower is))) (before_entry path bs c cs (second _ _ order) is)
  where
    below_there : (es : List Item) → T (below_all path_cmp b.0 (es ++ c ∷ cs)) → path_cmp b.0 c.0 ≡ Less
    below_there [] h = less _ (first _ _ h)
    below_there (e ∷ es) h = below_there es (second _ _ h)

pub first_is : (path : List ℕ) (item : Item) (items : List Item) → first_of items ≡ Some item → eq_by_cmp path_cmp path item.0 ≡ is_first path items
first_is path item [] is = none_some item is
first_is path item (e ∷ es) is = ap (λ k. eq_by_cmp path_cmp path k) (ap (λ (i : Item). i.0) (same_item item e is))
  where
    same_item : (x y : Item) → Some y ≡ Some x → x ≡ y
    same_item x y is = cc
