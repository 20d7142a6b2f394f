-- Two readings that are merged into one, key by key.
use Rattle.std.proofs.Common.{◌≡◌, Bool, true, false, T, ◌&&◌, ◌||◌, List, [], ◌∷◌, ◌++◌, map as list_map, All, Option, Some, None, refl, sym, ap, subst, ◌∙◌}
use Rattle.std.specs.Option.{MatchOption}
use Rattle.std.specs.Iterator.{YieldsFirst}
use Rattle.std.specs.List.{AllByRecursion, list_any}
use Rattle.std.specs.List.Sorted.{IsStrictlySortedBy}
use Rattle.std.specs.Ordering.{eq_by_cmp, ordering_reverse, is_lt}
use Rattle.std.specs.declared.cmp.Ordering.{Ordering}
use Rattle.std.specs.declared.cmp.Ordering.TheVariants.{Less, Equal, Greater}
use Rattle.std.specs.FinMap as map
use Rattle.std.specs.FinMap.{is_sorted}
use Rattle.std.specs.FinMap.Entries.{put, by_order, below_all}
use Rattle.std.proofs.lemmas.Bool.{or_parts}
use Rattle.std.proofs.lemmas.List.Elements.{All-head, All-tail, All-nil, All-cons, All-append, All-weaker, All-from_recursion}
use Rattle.std.proofs.lemmas.Map.Keys.{sorted_head, sorted_tail}
use Rattle.link_tree.specs.declared.change.Change.{Change}
use Rattle.link_tree.specs.Trees.{Entries, AreFrom, after_changes}
use Rattle.tree_access.specs.declared.key.Key.{Key}
use Rattle.tree_access.specs.declared.reading.Observation.{Observation}
use Rattle.tree_access.specs.Keys.{touches}
use Rattle.tree_access.specs.Merging.{IsReading, turn}
use Rattle.tree_access.specs.Order.{key_cmp, set_of}
use Rattle.tree_access.proofs.OrderLaws.{key_cmp_total, exact_keys}
use Rattle.tree_access.specs.Readings.{in_order, observed, reading_of, keys_of, Holds, HoldsIn}
use Rattle.tree_access.proofs.ReadingKeys.{keys_of_reading}
use Rattle.tree_access.proofs.Untouched.{agree_untouched}
use Rattle.tree_access.proofs.KeySets.{is_among, get-set_of, mark, same_keys, among-append, keys_again, All-in_order}

both_hold : (a b : Bool) → T (a && b) → T a × T b
both_hold true b h = (tt, h)
both_hold false b h = absurd h

is_less : (r : Ordering) → T (is_lt r) → r ≡ Less
is_less Less h = refl
is_less Equal h = absurd h
is_less Greater h = absurd h

-- A key is less than each of these.
abbrev pub Before : Key → List Key → Type 0
Before key keys = All (λ other. key_cmp key other ≡ Less) keys

-- a key that is less than all keys of a set is inserted at the front
put_first : (key : Key) (es : List (Key × Unit {0})) → Before key (list_map (λ e. e.0) es) → put key_cmp key tt es ≡ (key, tt) ∷ es
put_first key [] before = refl
put_first key (e ∷ es) before = ap (λ r. by_order r ((key, tt) ∷ e ∷ es) ((e.0, tt) ∷ es) (e ∷ put key_cmp key tt es)) (All-head (λ other. key_cmp key other ≡ Less) e.0 (list_map (λ e. e.0) es) before)

-- a key that is less than all others comes first
first_in_order : (key : Key) (keys : List Key) → Before key keys → in_order (key ∷ keys) ≡ key ∷ in_order keys
unfolding in_order
first_in_order key keys before =
    ap (list_map (λ e. e.0)) (map.entries-insert key_cmp_total (set_of keys) key tt ∙ put_first key (map.entries (set_of keys)) (All-in_order (λ other. key_cmp key other ≡ Less) keys before))

-- two lists that contain the same keys are the same list when ordered
same_order : (one other : List Key) → ((key : Key) → is_among one key ≡ is_among other key) → in_order one ≡ in_order other
unfolding in_order
same_order one other same = ap map.keys (same_keys (set_of one) (set_of other) (λ key. get-set_of one key ∙ ap mark (same key) ∙ sym (get-set_of other key)))

or_swap : (a b c : Bool) → (a || (b || c)) ≡ (b || (a || c))
or_swap true true c = refl
or_swap true false c = refl
or_swap false true c = refl
or_swap false false c = refl

or_twice : (a b c : Bool) → (a || (b || (a || c))) ≡ (a || (b || c))
or_twice true b c = refl
or_twice false b c = refl

-- the first key of the second list can be moved to the front of the first list
moved : (first second : List Key) (key : Key) → in_order (first ++ key ∷ second) ≡ in_order (key ∷ (first ++ second))
moved first second key = same_order _ _ (λ q.
    among-append first (key ∷ second) q
    ∙ or_swap (is_among first q) (eq_by_cmp key_cmp q key) (is_among second q)
    ∙ ap (λ b. eq_by_cmp key_cmp q key || b) (sym (among-append first second q)))

-- and if it is there already, it is needed only once
once : (first second : List Key) (key : Key) → in_order ((key ∷ first) ++ key ∷ second) ≡ in_order (key ∷ (first ++ second))
once first second key = same_order _ _ (λ q.
    ap (λ b. eq_by_cmp key_cmp q key || b) (among-append first (key ∷ second) q)
    ∙ or_twice (eq_by_cmp key_cmp q key) (is_among first q) (is_among second q)
    ∙ ap (λ b. eq_by_cmp key_cmp q key || b) (sym (among-append first second q)))

-- the first of keys in order is less than the rest
head_before : (key : Key) (keys : List Key) → IsStrictlySortedBy key_cmp (key ∷ keys) → Before key keys
head_before key keys sorted = All-from_recursion (λ other. key_cmp key other ≡ Less) keys (sorted_head key_cmp key keys sorted)

-- and so is a key that is less than the first
before_all : (key other : Key) (keys : List Key) → key_cmp key other ≡ Less → IsStrictlySortedBy key_cmp (other ∷ keys) → Before key (other ∷ keys)
before_all key other keys less sorted =
    All-cons (λ k. key_cmp key k ≡ Less) other keys less
    (All-weaker (λ k. key_cmp other k ≡ Less) (λ k. key_cmp key k ≡ Less) (λ k. key_cmp_total.trans key other k less) keys (head_before other keys sorted))

before_both : (key : Key) (first second : List Key) → Before key first → Before key second → Before key (first ++ second)
before_both key first second one other = All-append (λ k. key_cmp key k ≡ Less) first second one other

none_sorted : IsStrictlySortedBy key_cmp []
unfolding IsStrictlySortedBy
none_sorted = tt

none_in_order : in_order [] ≡ []
unfolding in_order
none_in_order = keys_again [] none_sorted

-- if a key still sees what it saw, the observation of it is the same
as_observed : (t : Entries) (one : Observation) → Holds t one → observed t one.key ≡ one
as_observed t one holds = ap (λ s. record { key = one.key; seen = s }) holds

none_of : {X : Type 0} (p : X → Bool) (xs : List X) → list_any p xs ≡ false → All (λ x. p x ≡ false) xs
none_of p [] none = All-nil (λ x. p x ≡ false)
none_of p (x ∷ xs) none = let parts = or_parts (p x) (list_any p xs) none in All-cons (λ x. p x ≡ false) x xs parts.0 (none_of p xs parts.1)

-- What a key saw after changes that don't touch it, it also sees before them.
pub as_before : (t : Entries) (changes : List Change) (one : Observation) → AreFrom t changes → Holds (after_changes changes t) one → list_any (λ change. touches change one.key) changes ≡ false
    → one ≡ observed t one.key
as_before t changes one from holds free =
    sym (as_observed t one (agree_untouched one.key changes t from (none_of (λ change. touches change one.key) changes free) ∙ holds))

-- the reading of a tree by keys, if the first of them is known
reading_from : (t : Entries) (keys rest : List Key) (key : Key) → in_order keys ≡ key ∷ in_order rest → reading_of keys t ≡ observed t key ∷ reading_of rest t
reading_from t keys rest key same = ap (list_map (observed t)) same

-- the rest of a reading is a reading
left : (t : Entries) (one : Observation) (rest : List Observation) → IsReading t (one ∷ rest) → IsReading t rest
left t one rest reading = record { holds = All-tail (Holds t) one rest reading.holds; in_order = sorted_tail key_cmp one.key (keys_of rest) reading.in_order }

abbrev Takes : (before : List Observation) → Option Observation → (after : List Observation) → Type 0
Takes = YieldsFirst (λ rest. rest)

pub left_after : (t : Entries) (taken : Option Observation) (before after : List Observation) → Takes before taken after → IsReading t before → IsReading t after
left_after t None before after takes reading = subst (IsReading t) (takes.0 ∙ sym takes.1) reading
left_after t (Some one) before after takes reading = left t one after (subst (IsReading t) takes reading)

module _ (t u : Entries) where
  -- the first has the next key
  of_first : (one : Observation) (first second : List Observation) → IsReading t (one ∷ first) → IsReading u second → turn (one ∷ first) second ≡ Less
      → reading_of (keys_of (one ∷ first) ++ keys_of second) t ≡ one ∷ reading_of (keys_of first ++ keys_of second) t
  of_first one first second reading later less =
      reading_from t (one.key ∷ (keys_of first ++ keys_of second)) (keys_of first ++ keys_of second) one.key
      (first_in_order one.key (keys_of first ++ keys_of second) (before_both one.key (keys_of first) (keys_of second) (head_before one.key (keys_of first) reading.in_order) (before_second second less later)))
      ∙ ap (λ o. o ∷ reading_of (keys_of first ++ keys_of second) t) (as_observed t one (All-head (Holds t) one first reading.holds))
    where
      before_second : (second : List Observation) → turn (one ∷ first) second ≡ Less → IsReading u second → Before one.key (keys_of second)
      before_second [] less later = All-nil (λ other. key_cmp one.key other ≡ Less)
      before_second (other ∷ second) less later = before_all one.key other.key (keys_of second) less later.in_order

  -- both have it
  of_both : (one other : Observation) (first second : List Observation) → IsReading t (one ∷ first) → IsReading u (other ∷ second) → turn (one ∷ first) (other ∷ second) ≡ Equal
      → reading_of (keys_of (one ∷ first) ++ keys_of (other ∷ second)) t ≡ one ∷ reading_of (keys_of first ++ keys_of second) t
  of_both one other first second reading later equal =
      let same : one.key ≡ other.key = exact_keys one.key other.key equal in
      let before : Before one.key (keys_of second) = subst (λ key. Before key (keys_of second)) (sym same) (head_before other.key (keys_of second) later.in_order) in
      reading_from t (keys_of (one ∷ first) ++ keys_of (other ∷ second)) (keys_of first ++ keys_of second) one.key
      (ap (λ key. in_order (keys_of (one ∷ first) ++ key ∷ keys_of second)) (sym same)
      ∙ once (keys_of first) (keys_of second) one.key
      ∙ first_in_order one.key (keys_of first ++ keys_of second) (before_both one.key (keys_of first) (keys_of second) (head_before one.key (keys_of first) reading.in_order) before))
      ∙ ap (λ o. o ∷ reading_of (keys_of first ++ keys_of second) t) (as_observed t one (All-head (Holds t) one first reading.holds))

  -- the second has it
  of_second : (other : Observation) (first second : List Observation) → IsReading t first → IsReading u (other ∷ second) → turn first (other ∷ second) ≡ Greater
      → reading_of (keys_of first ++ keys_of (other ∷ second)) t ≡ observed t other.key ∷ reading_of (keys_of first ++ keys_of second) t
  of_second other first second reading later greater =
      reading_from t (keys_of first ++ keys_of (other ∷ second)) (keys_of first ++ keys_of second) other.key
      (moved (keys_of first) (keys_of second) other.key
      ∙ first_in_order other.key (keys_of first ++ keys_of second) (before_both other.key (keys_of first) (keys_of second) (before_first first greater reading) (head_before other.key (keys_of second) later.in_order)))
    where
      before_first : (first : List Observation) → turn first (other ∷ second) ≡ Greater → IsReading t first → Before other.key (keys_of first)
      before_first [] greater reading = All-nil (λ one. key_cmp other.key one ≡ Less)
      before_first (one ∷ first) greater reading = before_all other.key one.key (keys_of first) (key_cmp_total.antisymm other.key one.key ∙ ap ordering_reverse greater) reading.in_order

  -- none is left
  of_none : (first : List Observation) → turn first [] ≡ Greater → reading_of (keys_of first ++ []) t ≡ []
  of_none [] greater = ap (list_map (observed t)) none_in_order
  of_none (one ∷ first) greater = cc

module _ (t u : Entries) where
  -- The next observation of two readings, depending on which of them has it.
  abbrev pub NextIs : (first second after later : List Observation) → Option Observation → Type 0
  NextIs first second after later next =
      MatchOption next (reading_of (keys_of first ++ keys_of second) t ≡ []) (λ one. reading_of (keys_of first ++ keys_of second) t ≡ one ∷ reading_of (keys_of after ++ keys_of later) t)

  pub next_of_first : (taken : Option Observation) (first after second : List Observation) → Takes first taken after → IsReading t first → IsReading u second → turn first second ≡ Less
      → NextIs first second after second taken
  next_of_first None first after second takes reading later less = less_than_none first takes.0 less
    where
      less_than_none : (first : List Observation) → first ≡ [] → turn first second ≡ Less → NextIs first second after second None
      less_than_none [] none less = cc
      less_than_none (one ∷ first) none less = cc
  next_of_first (Some one) first after second takes reading later less =
      subst (λ before. IsReading t before → turn before second ≡ Less → NextIs before second after second (Some one)) (sym takes)
      (λ reading less. of_first t u one after second reading later less) reading less

  pub next_of_both : (taken other : Option Observation) (first after second later : List Observation) → Takes first taken after → Takes second other later → IsReading t first → IsReading u second → turn first second ≡ Equal
      → NextIs first second after later taken
  next_of_both None other first after second later takes drops reading too equal = equal_to_none first takes.0 equal
    where
      equal_to_none : (first : List Observation) → first ≡ [] → turn first second ≡ Equal → NextIs first second after later None
      equal_to_none [] none equal = cc
      equal_to_none (one ∷ first) none equal = cc
  next_of_both (Some one) None first after second later takes drops reading too equal = none_is_equal first second takes drops.0 equal
    where
      none_is_equal : (first second : List Observation) → first ≡ one ∷ after → second ≡ [] → turn first second ≡ Equal → NextIs first second after later (Some one)
      none_is_equal first (other ∷ second) is none equal = cc
      none_is_equal [] [] is none equal = cc
      none_is_equal (other ∷ first) [] is none equal = cc
  next_of_both (Some one) (Some other) first after second later takes drops reading too equal =
      subst (λ before. IsReading t before → turn before second ≡ Equal → NextIs before second after later (Some one)) (sym takes)
      (subst (λ before. IsReading u before → IsReading t (one ∷ after) → turn (one ∷ after) before ≡ Equal → NextIs (one ∷ after) before after later (Some one)) (sym drops)
      (λ too reading equal. of_both t u one other after later reading too equal) too)
      reading equal

  pub next_of_second : (other one : Observation) (first second later : List Observation) → second ≡ other ∷ later → one ≡ observed t other.key → IsReading t first → IsReading u second → turn first second ≡ Greater
      → NextIs first second first later (Some one)
  next_of_second other one first second later drops is reading too greater =
      subst (λ o. NextIs first second first later (Some o)) (sym is)
      (subst (λ before. IsReading u before → turn first before ≡ Greater → NextIs first before first later (Some (observed t other.key))) (sym drops)
      (λ too greater. of_second t u other first later reading too greater) too greater)

  pub next_is_none : (first second : List Observation) → second ≡ [] → turn first second ≡ Greater → NextIs first second first second None
  next_is_none first second none greater =
      subst (λ before. turn first before ≡ Greater → NextIs first before first before None) (sym none) (of_none t u first) greater

below : (key : Key) (es : List (Key × Unit {0})) → T (below_all key_cmp key es) → AllByRecursion (λ other. key_cmp key other ≡ Less) (list_map (λ e. e.0) es)
below key [] h = tt
below key (e ∷ es) h = let parts = both_hold (is_lt (key_cmp key e.0)) (below_all key_cmp key es) h in (is_less (key_cmp key e.0) parts.0, below key es parts.1)

rising : (es : List (Key × Unit {0})) → T (is_sorted key_cmp es) → IsStrictlySortedBy key_cmp (list_map (λ e. e.0) es)
unfolding IsStrictlySortedBy
rising [] h = tt
rising (e ∷ es) h = let parts = both_hold (below_all key_cmp e.0 es) (is_sorted key_cmp es) h in (below e.0 es parts.0, rising es parts.1)

in_order_sorted : (keys : List Key) → IsStrictlySortedBy key_cmp (in_order keys)
unfolding in_order
in_order_sorted keys = rising (map.entries (set_of keys)) (map.entries_sorted (set_of keys))

-- the reading of a tree by keys is a reading
pub is_reading : (keys : List Key) (t : Entries) → IsReading t (reading_of keys t)
is_reading keys t = record { holds = all_hold (in_order keys); in_order = subst (IsStrictlySortedBy key_cmp) (sym (keys_of_reading keys t)) (in_order_sorted keys) }
  where
    all_hold : (keys : List Key) → HoldsIn t (list_map (observed t) keys)
    all_hold [] = All-nil (Holds t)
    all_hold (key ∷ keys) = All-cons (Holds t) (observed t key) (list_map (observed t) keys) refl (all_hold keys)
