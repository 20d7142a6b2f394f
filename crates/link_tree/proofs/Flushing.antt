-- Entries at slots can be added to a tree in any order that keeps the order of those at the same
-- path.
use Rattle.std.proofs.Common.{◌≡◌, ℕ, ◌+◌, ◌<◌, Bool, true, false, not, ◌&&◌, cond, List, [], ◌∷◌, ◌++◌, Option, None, Some, Result, Ok, Err, All, refl, sym, ap, ◌∙◌, subst, inl, inr, arith}
use Rattle.std.specs.Prelude.{is_some, min}
use Rattle.std.specs.List.{filter}
use Rattle.std.specs.List.Sorted.{ties, IsStableByKey}
use Rattle.std.specs.Ordering.{eq_by_cmp, is_lt, nat_cmp}
use Rattle.std.specs.Cmp.{eq_by_cmp_equiv, tied_itself}
use Rattle.std.specs.Cmp.Lexicographic.{nat_list_cmp_total}
use Rattle.std.proofs.lemmas.Cmp.{nat_cmp_total}
use Rattle.std.specs.FinMap as map
use Rattle.std.specs.FinMap.{get-insert, same_map}
use Rattle.std.proofs.lemmas.Bool.{cases_Bool, false≢true, false_from_ne_true}
use Rattle.std.proofs.lemmas.List.Elements.{All-head, All-tail, All-cons, All-nil, All-append, All-weaker, filter-append}
use Rattle.std.proofs.lemmas.Map.Lookups.{exact_bytes}
use Rattle.link_tree.specs.Shape.{IsTree, is_crowded}
use Rattle.unit_paths.specs.Shape.{is_bad_shape}
use Rattle.link_tree.specs.Trees.{Entries, path_cmp}
use Rattle.link_tree.specs.Inventory.{◌>>=◌, placed, in_entry}
use Rattle.link_tree.specs.declared.entry.Entry.{Entry}
use Rattle.link_tree.specs.declared.inventory_fault.InventoryFault.{InventoryFault}
use Rattle.link_tree.specs.declared.inventory_fault.InventoryFault.TheVariants.{Duplicate}
use Rattle.link_tree.specs.declared.pending.PendingEntry.{PendingEntry}
use Rattle.link_tree.specs.Pending.{place_all, with_entry, IsAtSlot, AreRising, ArePending, IsInserted, earlier, sort_key}
use Rattle.link_tree.proofs.Placing.{placed_free, placed_taken}
use Rattle.link_tree.proofs.Shapes.{grown_tree, same_key}
use Rattle.link_tree.proofs.Free.{slot_free}
use Rattle.unit_paths.proofs.Slots.{slot_shape}

-- the smallest number so far of an entry whose path was taken
abbrev pub noted : Bool → Option ℕ → ℕ → Option ℕ
noted true least number = Some (earlier least number)
noted false least number = least

-- all are inserted, in this order
abbrev pub inserted : Option ℕ → Entries → List PendingEntry → Option ℕ × Entries
inserted least m [] = (least, m)
inserted least m (a ∷ xs) = inserted (noted (is_some (map.get m a.path)) least a.number) (map.insert m a.path a.entry) xs

-- whether they are at the same path
abbrev same : PendingEntry → PendingEntry → Bool
same a b = eq_by_cmp path_cmp a.path b.path

-- two numbers can be noted in either order
min-comm : (k i j : ℕ) → min (min k i) j ≡ min (min k j) i
min-comm k i j = omega arith

min-swap : (i j : ℕ) → min i j ≡ min j i
min-swap i j = omega arith

noted_swap : (s t : Bool) (least : Option ℕ) (i j : ℕ) → noted t (noted s least i) j ≡ noted s (noted t least j) i
noted_swap true true None i j = ap (λ (k : ℕ). Some k) (min-swap i j)
noted_swap true true (Some k) i j = ap (λ (n : ℕ). Some n) (min-comm k i j)
noted_swap true false least i j = refl
noted_swap false true least i j = refl
noted_swap false false least i j = refl

-- an insertion at one path doesn't change the entry at another
other_kept : (m : Entries) (a b : PendingEntry) → same a b ≡ false → map.get (map.insert m b.path b.entry) a.path ≡ map.get m a.path
other_kept m a b other = get-insert nat_list_cmp_total m b.path b.entry a.path ∙ ap (λ t. cond t (Some b.entry) (map.get m a.path)) other

same_sym : (a b : PendingEntry) → same a b ≡ same b a
same_sym a b = (eq_by_cmp_equiv nat_list_cmp_total).symm a.path b.path

cond_swap : (s t : Bool) (x y o : Option Entry) → (s ≡ true → t ≡ true → ⊥) → cond s x (cond t y o) ≡ cond t y (cond s x o)
cond_swap true true x y o apart = absurd (apart refl refl)
cond_swap true false x y o apart = refl
cond_swap false t x y o apart = refl

inserted_swap : (m : Entries) (a b : PendingEntry) → same a b ≡ false → map.insert (map.insert m b.path b.entry) a.path a.entry ≡ map.insert (map.insert m a.path a.entry) b.path b.entry
inserted_swap m a b other = same_map nat_list_cmp_total exact_bytes _ _ (λ q.
    get-insert nat_list_cmp_total (map.insert m b.path b.entry) a.path a.entry q
    ∙ ap (cond (eq_by_cmp path_cmp q a.path) (Some a.entry)) (get-insert nat_list_cmp_total m b.path b.entry q)
    ∙ cond_swap (eq_by_cmp path_cmp q a.path) (eq_by_cmp path_cmp q b.path) (Some a.entry) (Some b.entry) (map.get m q)
    (λ at_a at_b. false≢true (sym other ∙ ap (λ p. eq_by_cmp path_cmp p b.path) (sym (same_key q a.path at_a)) ∙ at_b))
    ∙ sym (get-insert nat_list_cmp_total (map.insert m a.path a.entry) b.path b.entry q ∙ ap (cond (eq_by_cmp path_cmp q b.path) (Some b.entry)) (get-insert nat_list_cmp_total m a.path a.entry q)))

-- two entries at different paths can be added in either order
swap : (least : Option ℕ) (m : Entries) (a b : PendingEntry) (rest : List PendingEntry) → same a b ≡ false → inserted least m (b ∷ a ∷ rest) ≡ inserted least m (a ∷ b ∷ rest)
swap least m a b rest other =
    let kept_a = ap is_some (other_kept m a b other) in
    let kept_b = ap is_some (other_kept m b a (same_sym b a ∙ other)) in
    let numbers : noted (is_some (map.get (map.insert m b.path b.entry) a.path)) (noted (is_some (map.get m b.path)) least b.number) a.number
    ≡ noted (is_some (map.get (map.insert m a.path a.entry) b.path)) (noted (is_some (map.get m a.path)) least a.number) b.number =
    ap (λ t. noted t (noted (is_some (map.get m b.path)) least b.number) a.number) kept_a
    ∙ noted_swap (is_some (map.get m b.path)) (is_some (map.get m a.path)) least b.number a.number
    ∙ sym (ap (λ t. noted t (noted (is_some (map.get m a.path)) least a.number) b.number) kept_b) in
    λ i. inserted (numbers i) (inserted_swap m a b other i) rest

-- lists in which no element passes a test
cons_none : {X : Type 0} (x : X) (xs : List X) → x ∷ xs ≡ [] → ⊥
cons_none x xs h = cc

none_first : {X : Type 0} (b : Bool) (x : X) (xs : List X) → cond b (x ∷ xs) xs ≡ [] → (b ≡ false) × (xs ≡ [])
none_first true x xs h = absurd (cons_none x xs h)
none_first false x xs h = (refl, h)

-- an entry can be moved to the front if none before it is at its path
to_front : (least : Option ℕ) (m : Entries) (a : PendingEntry) (front back : List PendingEntry) → filter (same a) front ≡ [] → inserted least m (front ++ a ∷ back) ≡ inserted least m (a ∷ front ++ back)
to_front least m a [] back none = refl
to_front least m a (b ∷ front) back none =
    let parts = none_first (same a b) b (filter (same a) front) none in
    to_front (noted (is_some (map.get m b.path)) least b.number) (map.insert m b.path b.entry) a front back parts.1
    ∙ swap least m a b (front ++ back) parts.0

cons_head : {X : Type 0} {x y : X} {xs ys : List X} → x ∷ xs ≡ y ∷ ys → x ≡ y
cons_head h = cc

cons_rest : {X : Type 0} {x y : X} {xs ys : List X} → x ∷ xs ≡ y ∷ ys → xs ≡ ys
cons_rest h = cc

-- the position of the first element that passes a test
pub record Split {X : Type 0} (p : X → Bool) (xs : List X) (a : X) : Type 0 where
  front : List X
  back : List X
  is : xs ≡ front ++ a ∷ back
  none : filter p front ≡ []

split : {X : Type 0} (p : X → Bool) (xs : List X) (a : X) (rest : List X) → filter p xs ≡ a ∷ rest → Split p xs a
split p [] a rest h = absurd (cons_none a rest (sym h))
split p (x ∷ xs) a rest h = elim (cases_Bool (p x)) [
  | inl here ↦ record {
    front = [];
    back = xs;
    is = ap (λ y. y ∷ xs) (cons_head (sym (ap (λ t. cond t (x ∷ filter p xs) (filter p xs)) here) ∙ h));
    none = refl;
  }
  | inr past ↦ (let found = split p xs a rest (sym (ap (λ t. cond t (x ∷ filter p xs) (filter p xs)) past) ∙ h) in record {
    front = x ∷ found.front;
    back = found.back;
    is = ap (λ ys. x ∷ ys) found.is;
    none = ap (λ t. cond t (x ∷ filter p found.front) (filter p found.front)) past ∙ found.none;
  })
]

-- those at each path are in the same order
abbrev pub KeepTurns : List PendingEntry → List PendingEntry → Type 0
KeepTurns xs ys = (x : PendingEntry) → filter (same x) ys ≡ filter (same x) xs

same_self : (a : PendingEntry) → same a a ≡ true
same_self a = (eq_by_cmp_equiv nat_list_cmp_total).refl a.path

-- and still are without the entry that is the first of its path in both
turns_left : (a : PendingEntry) (xs front back : List PendingEntry) → filter (same a) front ≡ [] → KeepTurns (a ∷ xs) (front ++ a ∷ back) → KeepTurns xs (front ++ back)
turns_left a xs front back none turns x =
    let all = sym (filter-append (same x) front (a ∷ back)) ∙ turns x in
    let at : (t : Bool) → same x a ≡ t → filter (same x) front ++ cond t (a ∷ filter (same x) back) (filter (same x) back) ≡ cond t (a ∷ filter (same x) xs) (filter (same x) xs) =
    λ t is. subst (λ (b : Bool). filter (same x) front ++ cond b (a ∷ filter (same x) back) (filter (same x) back) ≡ cond b (a ∷ filter (same x) xs) (filter (same x) xs)) is all in
    filter-append (same x) front back ∙ elim (cases_Bool (same x a)) [
      | inl here ↦ (let gone : filter (same x) front ≡ [] = ap (λ (p : List ℕ). filter (λ y. eq_by_cmp path_cmp p y.path) front) (same_key x.path a.path here) ∙ none in
          ap (λ ys. ys ++ filter (same x) back) gone
          ∙ cons_rest (sym (ap (λ ys. ys ++ a ∷ filter (same x) back) gone) ∙ at true here))
      | inr other ↦ at false other
    ]

no_turns : (ys : List PendingEntry) → KeepTurns [] ys → ys ≡ []
no_turns [] turns = refl
no_turns (y ∷ ys) turns = absurd (cons_none y (filter (same y) ys) (sym (ap (λ t. cond t (y ∷ filter (same y) ys) (filter (same y) ys)) (same_self y)) ∙ turns y))

-- any order that keeps the order at each path gives the same result
pub inserted_alike : (least : Option ℕ) (m : Entries) (xs ys : List PendingEntry) → KeepTurns xs ys → inserted least m ys ≡ inserted least m xs
inserted_alike least m [] ys turns = ap (inserted least m) (no_turns ys turns)
inserted_alike least m (a ∷ xs) ys turns =
    let found = split (same a) ys a (filter (same a) xs) (turns a ∙ ap (λ t. cond t (a ∷ filter (same a) xs) (filter (same a) xs)) (same_self a)) in
    ap (inserted least m) found.is
    ∙ to_front least m a found.front found.back found.none
    ∙ inserted_alike (noted (is_some (map.get m a.path)) least a.number) (map.insert m a.path a.entry) xs (found.front ++ found.back)
    (turns_left a xs found.front found.back found.none (λ x. ap (filter (same x)) (sym found.is) ∙ turns x))

-- those that pass a test are among those that pass a weaker one
filter_twice : {X : Type 0} (p q : X → Bool) → ((x : X) → p x ≡ true → q x ≡ true) → (xs : List X) → filter p (filter q xs) ≡ filter p xs
filter_twice p q weaker [] = refl
filter_twice p q weaker (x ∷ xs) = elim (cases_Bool (q x)) [
  | inl here ↦ ap (λ t. filter p (cond t (x ∷ filter q xs) (filter q xs))) here ∙ ap (λ ys. cond (p x) (x ∷ ys) ys) (filter_twice p q weaker xs)
  | inr other ↦ (let out : p x ≡ false = false_from_ne_true (p x) (λ passes. false≢true (sym other ∙ weaker x passes)) in
      ap (λ t. filter p (cond t (x ∷ filter q xs) (filter q xs))) other ∙ filter_twice p q weaker xs ∙ sym (ap (λ t. cond t (x ∷ filter p xs) (filter p xs)) out))
]

-- a stable sort by a key that is equal for equal paths keeps the order at each path
module _ (key : List ℕ → ℕ) where
  abbrev tied : PendingEntry → PendingEntry → Bool
  tied = ties (λ x y. is_lt (nat_cmp (key x.path) (key y.path)))

  tied_self : (k : ℕ) → (not (is_lt (nat_cmp k k)) && not (is_lt (nat_cmp k k))) ≡ true
  tied_self k = ap (λ r. not (is_lt r) && not (is_lt r)) (tied_itself nat_cmp_total k)

  same_tied : (a b : PendingEntry) → same a b ≡ true → tied a b ≡ true
  same_tied a b at_one = ap (λ p. not (is_lt (nat_cmp (key a.path) (key p))) && not (is_lt (nat_cmp (key p) (key a.path)))) (sym (same_key a.path b.path at_one)) ∙ tied_self (key a.path)

  pub turns_kept : (xs ys : List PendingEntry) → IsStableByKey (λ a. key a.path) nat_cmp xs ys → KeepTurns xs ys
  turns_kept xs ys stable x =
      sym (filter_twice (same x) (tied x) (same_tied x) ys) ∙ ap (filter (same x)) (stable x) ∙ filter_twice (same x) (tied x) (same_tied x) xs

-- later numbers are greater
min-first : (k n : ℕ) → k < n → min k n ≡ k
min-first k n less = omega arith

noted_first : (t : Bool) (k n : ℕ) → k < n → noted t (Some k) n ≡ Some k
noted_first true k n less = ap (λ (i : ℕ). Some i) (min-first k n less)
noted_first false k n less = refl

abbrev IsLater : ℕ → PendingEntry → Type 0
IsLater k later = k < later.number

first_stays : (k : ℕ) (m : Entries) (xs : List PendingEntry) → All (λ later. k < later.number) xs → (inserted (Some k) m xs).0 ≡ Some k
first_stays k m [] later = refl
first_stays k m (a ∷ xs) later =
    ap (λ (least : Option ℕ). (inserted least (map.insert m a.path a.entry) xs).0) (noted_first (is_some (map.get m a.path)) k a.number (All-head (IsLater k) a xs later))
    ∙ first_stays k (map.insert m a.path a.entry) xs (All-tail (IsLater k) a xs later)

module _ (m : Entries) (a : PendingEntry) (xs : List PendingEntry) where
  taken_first : (e : Entry) → map.get m a.path ≡ Some e → All (λ later. a.number < later.number) xs → IsInserted (inserted None m (a ∷ xs)).0 (inserted None m (a ∷ xs)).1 (place_all m (a ∷ xs))
  taken_first e there later =
      let first : (inserted None m (a ∷ xs)).0 ≡ Some a.number =
      ap (λ (o : Option Entry). (inserted (noted (is_some o) None a.number) (map.insert m a.path a.entry) xs).0) there
      ∙ first_stays a.number (map.insert m a.path a.entry) xs later in
      let refused : place_all m (a ∷ xs) ≡ Err (Duplicate, a.number) =
      ap (λ (r : Result Entries InventoryFault). in_entry a.number r >>= λ grown. place_all grown xs) (placed_taken m a.path a.entry (ap is_some there)) in
      subst (λ (least : Option ℕ). IsInserted least (inserted None m (a ∷ xs)).1 (place_all m (a ∷ xs))) (sym first) refused

  placed_first : map.get m a.path ≡ None → is_crowded m a.path ≡ false → is_bad_shape a.path ≡ false → IsInserted (inserted None (map.insert m a.path a.entry) xs).0 (inserted None (map.insert m a.path a.entry) xs).1 (place_all (map.insert m a.path a.entry) xs) → IsInserted (inserted None m (a ∷ xs)).0 (inserted None m (a ∷ xs)).1 (place_all m (a ∷ xs))
  placed_first there free shape rest =
      let goes_on : place_all m (a ∷ xs) ≡ place_all (map.insert m a.path a.entry) xs =
      ap (λ (r : Result Entries InventoryFault). in_entry a.number r >>= λ grown. place_all grown xs) (placed_free m a.path a.entry there free shape) in
      let same_way : inserted None m (a ∷ xs) ≡ inserted None (map.insert m a.path a.entry) xs =
      ap (λ (o : Option Entry). inserted (noted (is_some o) None a.number) (map.insert m a.path a.entry) xs) there in
      subst (λ (r : Option ℕ × Entries). IsInserted r.0 r.1 (place_all m (a ∷ xs))) (sym same_way) (subst (IsInserted (inserted None (map.insert m a.path a.entry) xs).0 (inserted None (map.insert m a.path a.entry) xs).1) (sym goes_on) rest)

  one_inserted : (o : Option Entry) → map.get m a.path ≡ o → All (λ later. a.number < later.number) xs → is_crowded m a.path ≡ false → is_bad_shape a.path ≡ false → IsInserted (inserted None (map.insert m a.path a.entry) xs).0 (inserted None (map.insert m a.path a.entry) xs).1 (place_all (map.insert m a.path a.entry) xs) → IsInserted (inserted None m (a ∷ xs)).0 (inserted None m (a ∷ xs)).1 (place_all m (a ∷ xs))
  one_inserted (Some e) there later free shape rest = taken_first e there later
  one_inserted None there later free shape rest = placed_first there free shape rest

-- in the order of their numbers, all are placed, or the first whose path is taken is reported
pub inserted_places : (m : Entries) (xs : List PendingEntry) → IsTree m → All IsAtSlot xs → AreRising xs → IsInserted (inserted None m xs).0 (inserted None m xs).1 (place_all m xs)
inserted_places m [] tree slots rising = refl
inserted_places m (a ∷ xs) tree slots rising =
    let slot : IsAtSlot a = All-head IsAtSlot a xs slots in
    let free : is_crowded m a.path ≡ false = slot_free m a.path tree slot.0 in
    one_inserted m a xs (map.get m a.path) refl rising.0 free (slot_shape a.path slot.0)
    (inserted_places (map.insert m a.path a.entry) xs (grown_tree m a.path a.entry tree slot.1 free) (All-tail IsAtSlot a xs slots) rising.1)

-- and the same in any order that a stable sort gives
pub inserted_as_read : (m : Entries) (xs ys : List PendingEntry) (taken : Option ℕ) (new : Entries) → IsTree m → All IsAtSlot xs → AreRising xs → IsStableByKey (λ a. sort_key a.path) nat_cmp xs ys → (taken, new) ≡ inserted None m ys → IsInserted taken new (place_all m xs)
inserted_as_read m xs ys taken new tree slots rising stable is =
    subst (λ (r : Option ℕ × Entries). IsInserted r.0 r.1 (place_all m xs)) (sym (is ∙ inserted_alike None m xs ys (turns_kept sort_key xs ys stable))) (inserted_places m xs tree slots rising)

-- one more entry is pending
pub one_pending : (m : Entries) (xs : List PendingEntry) (a : PendingEntry) → place_all m (xs ++ a ∷ []) ≡ with_entry (place_all m xs) a.number (a.path, a.entry)
one_pending m [] a = alone (placed m (a.path, a.entry))
  where
    alone : (r : Result Entries InventoryFault) → (in_entry a.number r >>= λ grown. Ok grown) ≡ in_entry a.number r
    alone (Ok grown) = refl
    alone (Err fault) = refl
one_pending m (x ∷ xs) a = later (placed m (x.path, x.entry)) (λ grown. one_pending grown xs a)
  where
    later : (r : Result Entries InventoryFault) → ((grown : Entries) → place_all grown (xs ++ a ∷ []) ≡ with_entry (place_all grown xs) a.number (a.path, a.entry)) → (in_entry x.number r >>= λ grown. place_all grown (xs ++ a ∷ [])) ≡ with_entry (in_entry x.number r >>= λ grown. place_all grown xs) a.number (a.path, a.entry)
    later (Ok grown) rest = rest grown
    later (Err fault) rest = refl

abbrev IsBefore : ℕ → PendingEntry → Type 0
IsBefore next one = one.number < next

one_rises : (xs : List PendingEntry) (a : PendingEntry) → All (IsBefore a.number) xs → AreRising xs → AreRising (xs ++ a ∷ [])
one_rises [] a before rising = (All-nil (IsLater a.number), tt)
one_rises (x ∷ xs) a before rising = (
  All-append (IsLater x.number) xs (a ∷ []) rising.0 (All-cons (IsLater x.number) a [] (All-head (IsBefore a.number) x xs before) (All-nil (IsLater x.number))),
  one_rises xs a (All-tail (IsBefore a.number) x xs before) rising.1,
)

before_next : (next : ℕ) (x : PendingEntry) → IsBefore next x → IsBefore (next + 1) x
before_next next x before = omega arith

before_own : (a : PendingEntry) → IsBefore (a.number + 1) a
before_own a = omega arith

pub all_pending : (xs : List PendingEntry) (a : PendingEntry) → IsAtSlot a → ArePending a.number xs → ArePending (a.number + 1) (xs ++ a ∷ [])
all_pending xs a slot are = record {
  at_slots = All-append IsAtSlot xs (a ∷ []) are.at_slots (All-cons IsAtSlot a [] slot (All-nil IsAtSlot));
  before =
      All-append (IsBefore (a.number + 1)) xs (a ∷ []) (All-weaker (IsBefore a.number) (IsBefore (a.number + 1)) (before_next a.number) xs are.before)
      (All-cons (IsBefore (a.number + 1)) a [] (before_own a) (All-nil (IsBefore (a.number + 1))));
  rising = one_rises xs a are.before are.rising;
}

pub none_pending : (next : ℕ) → ArePending next []
none_pending next = record {
  at_slots = All-nil IsAtSlot;
  before = All-nil (IsBefore next);
  rising = tt;
}
