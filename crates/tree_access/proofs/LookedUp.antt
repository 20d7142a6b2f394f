-- The links that belong to names are found by look-ups of these names.
use Rattle.std.proofs.Common.{◌≡◌, ℕ, Bool, true, false, cond, List, [], ◌∷◌, All, Option, Some, None, refl, sym, ap, ◌∙◌, subst, inl, inr, ◌⊎◌}
use Rattle.std.specs.Prelude.{not, ◌||◌, map as list_map}
use Rattle.std.specs.Str.{bytes_eq}
use Rattle.std.specs.FinMap as map
use Rattle.std.specs.FinMap.Entries.{find}
use Rattle.std.specs.List.{list_any, filter}
use Rattle.std.specs.Ordering.{eq_by_cmp}
use Rattle.std.proofs.lemmas.Bool.{cases_Bool, true≢false, or_left, or_right}
use Rattle.std.proofs.lemmas.List.Elements.{All-head, All-tail, All-nil, All-cons, All-weaker}
use Rattle.std.proofs.lemmas.Slice.Eq.{bytes_eq-Decides}
use Rattle.unit_paths.specs.declared.place.Scope.{Scope}
use Rattle.link_tree.specs.declared.entry.Entry.{Entry}
use Rattle.link_tree.specs.Trees.{path_cmp, Entries}
use Rattle.link_tree.specs.Links.{belongs}
use Rattle.link_tree.specs.Belonging.{belonging}
use Rattle.link_tree.proofs.Changed.{get-set, same_tree, same_bytes}
use Rattle.link_tree.proofs.Shapes.{same_key}
use Rattle.tree_access.specs.declared.key.Key.{Key}
use Rattle.tree_access.specs.declared.key.Key.TheVariants.{Cell, Marked, Presets, Links}
use Rattle.tree_access.specs.Keys.{Chosen, chosen_at, is_cell, selects, any_selects, those, part}
use Rattle.tree_access.proofs.KeyLaws.{get-those, part_is}
use Rattle.tree_access.specs.Seeing.{StandsIn, AllStand, is_marked, marked_by, placed_in, taken, taken_all, taken_for}
use Rattle.tree_access.proofs.Those.{some_is, shown_there}

-- an entry that is in the list and is chosen is among the chosen ones
among_kept : (f : List ℕ → Entry → Bool) (es : List (List ℕ × Entry)) (q : List ℕ) (e : Entry) → find path_cmp q es ≡ Some e → f q e ≡ true → list_any (bytes_eq q) (list_map (λ x. x.0) (filter (λ x. f x.0 x.1) es)) ≡ true
among_kept f [] q e found chosen = some_is e found
among_kept f (x ∷ es) q e found chosen = elim (cases_Bool (eq_by_cmp path_cmp q x.0)) [
  | inl here ↦ (
      let at : q ≡ x.0 = same_key q x.0 here in
      let is : Some x.1 ≡ Some e = sym (ap (λ b. cond b (Some x.1) (find path_cmp q es)) here) ∙ found in
      let kept : f x.0 x.1 ≡ true = ap (f x.0) (some_same is) ∙ ap (λ p. f p e) (sym at) ∙ chosen in
      ap (λ b. list_any (bytes_eq q) (list_map (λ x. x.0) (cond b (x ∷ filter (λ x. f x.0 x.1) es) (filter (λ x. f x.0 x.1) es)))) kept
      ∙ or_left (bytes_eq q x.0) (list_any (bytes_eq q) (list_map (λ x. x.0) (filter (λ x. f x.0 x.1) es))) ((bytes_eq-Decides q x.0).1 at))
  | inr away ↦ (
      let later : list_any (bytes_eq q) (list_map (λ x. x.0) (filter (λ x. f x.0 x.1) es)) ≡ true = among_kept f es q e (sym (ap (λ b. cond b (Some x.1) (find path_cmp q es)) away) ∙ found) chosen in
      elim (f x.0 x.1) as (λ b. list_any (bytes_eq q) (list_map (λ x. x.0) (cond b (x ∷ filter (λ x. f x.0 x.1) es) (filter (λ x. f x.0 x.1) es))) ≡ true) [
        | true ↦ or_right (bytes_eq q x.0) (list_any (bytes_eq q) (list_map (λ x. x.0) (filter (λ x. f x.0 x.1) es))) later
        | false ↦ later
      ])
]
  where
    some_same : {x y : Entry} → Some x ≡ Some y → x ≡ y
    some_same h = cc

-- a link that belongs to a name is listed under it
pub listed_under : (scope : Scope) (name : List ℕ) (t : Entries) (q : List ℕ) (e : Entry) → map.get t q ≡ Some e → belongs scope name q e ≡ true → list_any (bytes_eq q) (belonging scope name t) ≡ true
listed_under scope name t q e there here = among_kept (belongs scope name) (map.entries t) q e (sym (map.get-entries t q) ∙ there) here

module _ (chosen : Chosen) (t : Entries) where
  abbrev shown_at : List ℕ → Option Entry
  shown_at q = chosen_at chosen q (map.get t q)

  one_off : (p : List ℕ) (found : Entries) (q : List ℕ) (o : Option Entry) → shown_at p ≡ o → shown_at q ≡ None → map.get (placed_in found p o) q ≡ map.get found q
  one_off p found q None at off = refl
  one_off p found q (Some e) at off = get-set found p (Some e) q ∙ elim (cases_Bool (bytes_eq q p)) [
    | inl same ↦ some_is e (sym off ∙ ap shown_at (same_bytes q p same) ∙ at)
    | inr other ↦ ap (λ b. cond b (Some e) (map.get found q)) other
  ]

  one_on : (p : List ℕ) (found : Entries) (q : List ℕ) (e : Entry) (o : Option Entry) → shown_at p ≡ o → shown_at q ≡ Some e → (map.get found q ≡ Some e) ⊎ (bytes_eq q p ≡ true) → map.get (placed_in found p o) q ≡ Some e
  one_on p found q e None at on here = elim here [ inl was ↦ was | inr same ↦ some_is e (sym at ∙ sym (ap shown_at (same_bytes q p same)) ∙ on) ]
  one_on p found q e (Some f) at on here = get-set found p (Some f) q ∙ elim (cases_Bool (bytes_eq q p)) [
    | inl same ↦ ap (λ b. cond b (Some f) (map.get found q)) same ∙ sym at ∙ sym (ap shown_at (same_bytes q p same)) ∙ on
    | inr other ↦ ap (λ b. cond b (Some f) (map.get found q)) other ∙ elim here [ inl was ↦ was | inr same ↦ absurd (true≢false (sym same ∙ other)) ]
  ]

  all_off : (ps : List (List ℕ)) (found : Entries) (q : List ℕ) → shown_at q ≡ None → map.get (taken_all chosen t ps found) q ≡ map.get found q
  all_off [] found q off = refl
  all_off (p ∷ ps) found q off = all_off ps (taken chosen t p found) q off ∙ one_off p found q (shown_at p) refl off

  all_on : (ps : List (List ℕ)) (found : Entries) (q : List ℕ) (e : Entry) → shown_at q ≡ Some e → (map.get found q ≡ Some e) ⊎ (list_any (bytes_eq q) ps ≡ true) → map.get (taken_all chosen t ps found) q ≡ Some e
  all_on [] found q e on here = elim here [ inl was ↦ was | inr none ↦ absurd (true≢false (sym none)) ]
  all_on (p ∷ ps) found q e on here = elim (cases_Bool (bytes_eq q p)) [
    | inl same ↦ all_on ps (taken chosen t p found) q e on (inl (one_on p found q e (shown_at p) refl on (inr same)))
    | inr other ↦ elim here [
      | inl was ↦ all_on ps (taken chosen t p found) q e on (inl (one_on p found q e (shown_at p) refl on (inl was)))
      | inr later ↦ all_on ps (taken chosen t p found) q e on (inr (sym (ap (λ b. b || list_any (bytes_eq q) ps) other) ∙ later))
    ]
  ]

  for_off : (keys : List Key) (found : Entries) (q : List ℕ) → shown_at q ≡ None → map.get (taken_for chosen t keys found) q ≡ map.get found q
  for_off [] found q off = refl
  for_off (key ∷ keys) found q off = for_off keys (taken_all chosen t (marked_by key t) found) q off ∙ all_off (marked_by key t) found q off

  abbrev is_listed : List Key → List ℕ → Bool
  is_listed keys q = list_any (λ key. list_any (bytes_eq q) (marked_by key t)) keys

  for_on : (keys : List Key) (found : Entries) (q : List ℕ) (e : Entry) → shown_at q ≡ Some e → (map.get found q ≡ Some e) ⊎ (is_listed keys q ≡ true) → map.get (taken_for chosen t keys found) q ≡ Some e
  for_on [] found q e on here = elim here [ inl was ↦ was | inr none ↦ absurd (true≢false (sym none)) ]
  for_on (key ∷ keys) found q e on here = elim (cases_Bool (list_any (bytes_eq q) (marked_by key t))) [
    | inl this ↦ for_on keys (taken_all chosen t (marked_by key t) found) q e on (inl (all_on (marked_by key t) found q e on (inr this)))
    | inr other ↦ elim here [
      | inl was ↦ for_on keys (taken_all chosen t (marked_by key t) found) q e on (inl (all_on (marked_by key t) found q e on (inl was)))
      | inr later ↦ for_on keys (taken_all chosen t (marked_by key t) found) q e on (inr (sym (ap (λ b. b || is_listed keys q) other) ∙ later))
    ]
  ]

-- an entry at which one of the keys looks is listed under the name of one of them
listed_for : (keys : List Key) (t : Entries) (q : List ℕ) (e : Entry) → All (λ key. is_marked key ≡ true) keys → map.get t q ≡ Some e → any_selects keys q e ≡ true → is_listed (any_selects keys) t keys q ≡ true
listed_for [] t q e marked there here = absurd (true≢false (sym here))
listed_for (key ∷ keys) t q e marked there here = elim (cases_Bool (selects key q e)) [
  | inl this ↦ or_left (list_any (bytes_eq q) (marked_by key t)) _ (by_key key (All-head (λ key. is_marked key ≡ true) key keys marked) this)
  | inr other ↦ or_right (list_any (bytes_eq q) (marked_by key t)) _ (listed_for keys t q e (All-tail (λ key. is_marked key ≡ true) key keys marked) there (sym (ap (λ b. b || any_selects keys q e) other) ∙ here))
]
  where
    by_key : (key : Key) → is_marked key ≡ true → selects key q e ≡ true → list_any (bytes_eq q) (marked_by key t) ≡ true
    by_key (Marked scope name) is this = listed_under scope name t q e there this
    by_key (Cell path) is this = absurd (true≢false (sym is))
    by_key Presets is this = absurd (true≢false (sym is))
    by_key Links is this = absurd (true≢false (sym is))

-- everything at which the keys look was looked up
pub looked_up_those : (keys : List Key) (t : Entries) → All (λ key. is_marked key ≡ true) keys → taken_for (any_selects keys) t keys map.empty ≡ those (any_selects keys) t
looked_up_those keys t marked = same_tree _ _ (λ q. by_shown q (chosen_at (any_selects keys) q (map.get t q)) refl ∙ sym (get-those (any_selects keys) t q))
  where
    by_shown : (q : List ℕ) (there : Option Entry) → chosen_at (any_selects keys) q (map.get t q) ≡ there → map.get (taken_for (any_selects keys) t keys map.empty) q ≡ chosen_at (any_selects keys) q (map.get t q)
    by_shown q None off = for_off (any_selects keys) t keys map.empty q off ∙ map.get-empty path_cmp q ∙ sym off
    by_shown q (Some e) on = (let there = shown_there (any_selects keys) q (map.get t q) e on in
        for_on (any_selects keys) t keys map.empty q e on (inr (listed_for keys t q e marked there.0 there.1)) ∙ sym on)

-- the entries at which a single key looks
pub those_of_one : (key : Key) (t : Entries) → those (any_selects (key ∷ [])) t ≡ part key t
those_of_one key t = same_tree _ _ (λ q. get-those (any_selects (key ∷ [])) t q ∙ same q (map.get t q) ∙ sym (get-those (selects key) t q)) ∙ sym (part_is key t)
  where
    or_none : (b : Bool) → (b || false) ≡ b
    or_none true = refl
    or_none false = refl

    same : (q : List ℕ) (o : Option Entry) → chosen_at (any_selects (key ∷ [])) q o ≡ chosen_at (selects key) q o
    same q None = refl
    same q (Some e) = ap (λ b. cond b (Some e) None) (or_none (selects key q e))

-- if no key is of another kind, all look at the links that belong to names
pub all_marked : (keys : List Key) → list_any (λ key. not (is_marked key)) keys ≡ false → All (λ key. is_marked key ≡ true) keys
all_marked [] none = All-nil (λ key. is_marked key ≡ true)
all_marked (key ∷ keys) none = elim (cases_Bool (is_marked key)) [
  | inl marked ↦ All-cons (λ key. is_marked key ≡ true) key keys marked (all_marked keys (sym (ap (λ b. not b || list_any (λ key. not (is_marked key)) keys) marked) ∙ none))
  | inr other ↦ absurd (true≢false (sym (ap (λ b. not b || list_any (λ key. not (is_marked key)) keys) other) ∙ none))
]

pub one_marked : (key : Key) → is_marked key ≡ true → All (λ key. is_marked key ≡ true) (key ∷ [])
one_marked key marked = All-cons (λ key. is_marked key ≡ true) key [] marked (All-nil (λ key. is_marked key ≡ true))

-- such keys aren't cells
pub marked_no_cells : (keys : List Key) → All (λ key. is_marked key ≡ true) keys → All (λ key. is_cell key ≡ false) keys
marked_no_cells keys marked = All-weaker (λ key. is_marked key ≡ true) (λ key. is_cell key ≡ false) (λ key. no_cell key) keys marked
  where
    no_cell : (key : Key) → is_marked key ≡ true → is_cell key ≡ false
    no_cell (Cell path) h = sym h
    no_cell (Marked scope name) h = refl
    no_cell Presets h = absurd (true≢false (sym h))
    no_cell Links h = absurd (true≢false (sym h))

-- the links that belong to a name are in another tree if all paths listed under it are
pub listed_stand : (scope : Scope) (name : List ℕ) (t u : Entries) → All (StandsIn (Marked scope name) t u) (belonging scope name t) → AllStand (Marked scope name) t u
listed_stand scope name t u all path entry there here = at_path (belonging scope name t) all (listed_under scope name t path entry there here)
  where
    at_path : (ps : List (List ℕ)) → All (StandsIn (Marked scope name) t u) ps → list_any (bytes_eq path) ps ≡ true → map.get u path ≡ Some entry
    at_path [] all none = absurd (true≢false (sym none))
    at_path (p ∷ ps) all any = elim (cases_Bool (bytes_eq path p)) [
      | inl same ↦ subst (StandsIn (Marked scope name) t u) (sym (same_bytes path p same)) (All-head (StandsIn (Marked scope name) t u) p ps all) entry there here
      | inr other ↦ at_path ps (All-tail (StandsIn (Marked scope name) t u) p ps all) (sym (ap (λ b. b || list_any (bytes_eq path) ps) other) ∙ any)
    ]

pub all_stand_in : (key : Key) (t u : Entries) (ps : List (List ℕ)) → AllStand key t u → All (StandsIn key t u) ps
all_stand_in key t u [] all = All-nil (StandsIn key t u)
all_stand_in key t u (p ∷ ps) all = All-cons (StandsIn key t u) p ps (λ entry. all p entry) (all_stand_in key t u ps all)
