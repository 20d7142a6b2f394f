-- Sets of keys.
use Rattle.std.proofs.Common.{◌≡◌, Bool, true, false, cond, T, ◌&&◌, ◌||◌, List, [], ◌∷◌, ◌++◌, map as list_map, length, All, Contains, Option, Some, None, refl, sym, ap, subst, ◌∙◌}
use Rattle.std.specs.Prelude.{is_some}
use Rattle.std.specs.BTreeSet.{BTreeSet, contains}
use Rattle.std.specs.List.{list_any, AllByRecursion}
use Rattle.std.specs.List.Sorted.{IsStrictlySortedBy}
use Rattle.std.specs.Ordering.{eq_by_cmp, is_eq, is_lt}
use Rattle.std.specs.Cmp.{eq_by_cmp_equiv}
use Rattle.std.specs.declared.cmp.Ordering.{Ordering}
use Rattle.std.specs.declared.cmp.Ordering.TheVariants.{Less, Equal, Greater}
use Rattle.std.specs.FinMap as map
use Rattle.std.specs.FinMap.{is_sorted, put}
use Rattle.std.specs.FinMap.Entries.{below_all}
use Rattle.std.proofs.lemmas.Bool.{true≢false}
use Rattle.std.proofs.lemmas.List.Elements.{All-contains, All-weaker, All-contains_itself}
use Rattle.std.proofs.lemmas.Map.Views.{list_any-from_Contains, Contains-from_any}
use Rattle.tree_access.specs.declared.key.Key.{Key}
use Rattle.tree_access.specs.Order.{key_cmp, KeySet, entry, set_of}
use Rattle.tree_access.proofs.OrderLaws.{key_cmp_total, exact_keys}
use Rattle.tree_access.specs.Readings.{in_order}

is_equal : (r : Ordering) → is_eq r ≡ true → r ≡ Equal
is_equal Less h = absurd (true≢false (sym h))
is_equal Equal h = refl
is_equal Greater h = absurd (true≢false (sym h))

same_key : (key other : Key) → eq_by_cmp key_cmp key other ≡ true → key ≡ other
same_key key other h = exact_keys key other (is_equal (key_cmp key other) h)

-- whether a key is in this list
abbrev pub is_among : List Key → Key → Bool
is_among keys key = list_any (eq_by_cmp key_cmp key) keys

abbrev pub mark : Bool → Option (Unit {0})
mark b = cond b (Some tt) None

one_mark : (a b : Bool) → cond a (Some tt) (mark b) ≡ mark (a || b)
one_mark true b = refl
one_mark false b = refl

-- the value of a set of keys at a key
pub get-set_of : (keys : List Key) (key : Key) → map.get (set_of keys) key ≡ mark (is_among keys key)
get-set_of [] key = map.get-empty key_cmp key
get-set_of (k ∷ ks) key =
    map.get-insert key_cmp_total (set_of ks) k tt key ∙ ap (λ there. cond (eq_by_cmp key_cmp key k) (Some tt) there) (get-set_of ks key) ∙ one_mark (eq_by_cmp key_cmp key k) (is_among ks key)

marked : (b : Bool) → is_some (mark b) ≡ b
marked true = refl
marked false = refl

-- a key is in the ordered list exactly if it is in the list
any-in_order : (keys : List Key) (key : Key) → is_among (in_order keys) key ≡ is_among keys key
unfolding in_order
any-in_order keys key = sym (map.contains_key-keys (set_of keys) key) ∙ ap is_some (get-set_of keys key) ∙ marked (is_among keys key)

-- the ordered list of keys contains each of the keys
pub Contains-in_order : (keys : List Key) (key : Key) → Contains keys key → Contains (in_order keys) key
Contains-in_order keys key here = Contains-from_any same_key key (in_order keys) (any-in_order keys key ∙ list_any-from_Contains (eq_by_cmp_equiv key_cmp_total) key keys here)

pub in_order-Contains : (keys : List Key) (key : Key) → Contains (in_order keys) key → Contains keys key
in_order-Contains keys key here = Contains-from_any same_key key keys (sym (any-in_order keys key) ∙ list_any-from_Contains (eq_by_cmp_equiv key_cmp_total) key (in_order keys) here)

-- what holds for all keys holds for all keys in order
pub All-in_order : (P : Key → Type 0) (keys : List Key) → All P keys → All P (in_order keys)
All-in_order P keys all = All-weaker (Contains (in_order keys)) P (λ key here. All-contains P keys key all (in_order-Contains keys key here)) (in_order keys) (All-contains_itself (in_order keys))

pub All-in_set : (P : Key → Type 0) (keys : List Key) → All P keys → All P (map.keys (set_of keys))
unfolding in_order
All-in_set P keys all = All-in_order P keys all

-- and the converse
pub in_order-All : (P : Key → Type 0) (keys : List Key) → All P (in_order keys) → All P keys
in_order-All P keys all = All-weaker (Contains keys) P (λ key here. All-contains P (in_order keys) key all (Contains-in_order keys key here)) keys (All-contains_itself keys)

both : (a b : Bool) → T a → T b → T (a && b)
both true b h k = k
both false b h k = absurd h

below : (key : Key) (keys : List Key) → AllByRecursion (λ other. key_cmp key other ≡ Less) keys → T (below_all key_cmp key (list_map entry keys))
below key [] h = tt
below key (k ∷ ks) h = both _ _ (subst (λ r. T (is_lt r)) (sym h.0) tt) (below key ks h.1)

sorted : (keys : List Key) → IsStrictlySortedBy key_cmp keys → T (is_sorted key_cmp (list_map entry keys))
unfolding IsStrictlySortedBy
sorted [] h = tt
sorted (k ∷ ks) h = both _ _ (below k ks h.0) (sorted ks h.1)

plain : (keys : List Key) → list_map (λ e. e.0) (list_map entry keys) ≡ keys
plain [] = refl
plain (k ∷ ks) = ap (λ rest. k ∷ rest) (plain ks)

pub same_keys : (one other : KeySet) → ((key : Key) → map.get one key ≡ map.get other key) → one ≡ other
same_keys one other h = map.same_map key_cmp_total exact_keys one other h

-- a list of keys that is in order is the list of the keys of its set
pub keys_again : (keys : List Key) → IsStrictlySortedBy key_cmp keys → map.keys (set_of keys) ≡ keys
keys_again keys h =
    ap map.keys (same_keys _ _ (λ key. map.get-from_entries key_cmp_total (list_map entry keys) key ∙ sym (map.get-from_sorted key_cmp (list_map entry keys) key (sorted keys h))))
    ∙ ap (list_map (λ e. e.0)) (map.entries-from_sorted key_cmp (list_map entry keys) (sorted keys h))
    ∙ plain keys

-- a set of keys with one more key is the old set with that key inserted
pub one_more : (old new : BTreeSet Key) (key : Key) → ((q : Key) → contains key_cmp new q ≡ cond (eq_by_cmp key_cmp key q) true (contains key_cmp old q))
    → set_of new.keys ≡ map.insert (set_of old.keys) key tt
one_more old new key h = same_keys _ _ (λ q.
    get-set_of new.keys q
    ∙ ap mark (h q ∙ or_cond (eq_by_cmp key_cmp key q) _ ∙ ap (λ b. b || is_among old.keys q) ((eq_by_cmp_equiv key_cmp_total).symm key q))
    ∙ sym (get-set_of (key ∷ old.keys) q)
    ∙ get-set_of-more q)
  where
    or_cond : (b c : Bool) → cond b true c ≡ (b || c)
    or_cond true c = refl
    or_cond false c = refl

    get-set_of-more : (q : Key) → map.get (set_of (key ∷ old.keys)) q ≡ map.get (map.insert (set_of old.keys) key tt) q
    get-set_of-more q = refl

-- A key is in the set or remains to be added exactly if it is in the list of all.
abbrev pub AreGathered : KeySet → (rest all : List Key) → Type 0
AreGathered these rest all = (q : Key) → cond (is_among rest q) (Some tt) (map.get these q) ≡ mark (is_among all q)

pub none_gathered : (keys : List Key) → AreGathered map.empty keys keys
none_gathered keys q = ap (λ there. cond (is_among keys q) (Some tt) there) (map.get-empty key_cmp q)

pub one_gathered : (these : KeySet) (key : Key) (rest all : List Key) → AreGathered these (key ∷ rest) all → AreGathered (map.insert these key tt) rest all
one_gathered these key rest all h q = ap (λ there. cond (is_among rest q) (Some tt) there) (map.get-insert key_cmp_total these key tt q) ∙ swap (is_among rest q) (eq_by_cmp key_cmp q key) _ ∙ h q
  where
    swap : (a b : Bool) (o : Option (Unit {0})) → cond a (Some tt) (cond b (Some tt) o) ≡ cond (b || a) (Some tt) o
    swap true true o = refl
    swap true false o = refl
    swap false true o = refl
    swap false false o = refl

pub all_gathered : (these : KeySet) (all : List Key) → AreGathered these [] all → these ≡ set_of all
all_gathered these all h = same_keys these (set_of all) (λ q. h q ∙ sym (get-set_of all q))

pub among-append : (keys more : List Key) (key : Key) → is_among (keys ++ more) key ≡ (is_among keys key || is_among more key)
among-append [] more key = refl
among-append (k ∷ ks) more key = ap (λ b. eq_by_cmp key_cmp key k || b) (among-append ks more key) ∙ or_assoc (eq_by_cmp key_cmp key k) _ _
  where
    or_assoc : (x y z : Bool) → (x || (y || z)) ≡ ((x || y) || z)
    or_assoc true y z = refl
    or_assoc false y z = refl

-- ordering the ordered lists joined is the same as ordering the two lists joined
pub in_order-both : (keys more : List Key) → in_order (in_order keys ++ in_order more) ≡ in_order (keys ++ more)
unfolding in_order
in_order-both keys more = ap map.keys (same_keys (set_of (in_order keys ++ in_order more)) (set_of (keys ++ more)) (λ key.
    get-set_of (in_order keys ++ in_order more) key
    ∙ ap mark (among-append (in_order keys) (in_order more) key ∙ (λ i. any-in_order keys key i || any-in_order more key i) ∙ sym (among-append keys more key))
    ∙ sym (get-set_of (keys ++ more) key)))

none_there : map.entries (map.empty {X = Unit {0}} {R = key_cmp}) ≡ []
none_there = no_length _ (sym (map.len-entries map.empty) ∙ map.len-empty key_cmp (Unit {0}))
  where
    no_length : {X : Type 0} (xs : List X) → length xs ≡ 0 → xs ≡ []
    no_length [] h = refl
    no_length (x ∷ xs) h = cc

-- a single key is in order
pub one_in_order : (key : Key) → in_order (key ∷ []) ≡ key ∷ []
unfolding in_order
one_in_order key = ap (list_map (λ (e : Key × Unit {0}). e.0)) (map.entries-insert key_cmp_total map.empty key tt ∙ ap (put key_cmp key tt) none_there)
