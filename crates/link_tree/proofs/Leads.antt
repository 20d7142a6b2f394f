-- Applying the changes between two trees to the first gives the second.
use Rattle.std.proofs.Common.{◌≡◌, ◌≢◌, ℕ, true, false, cond, T, List, [], ◌∷◌, map as list_map, Option, Some, None, All, refl, sym, ◌∙◌, ap, subst, inl, inr}
use Rattle.std.specs.List.{AllByRecursion}
use Rattle.std.specs.List.Sorted.{IsStrictlySortedBy}
use Rattle.std.specs.Ordering.{is_lt, is_eq}
use Rattle.std.specs.declared.cmp.Ordering.TheVariants.{Less}
use Rattle.std.specs.Str.{bytes_eq}
use Rattle.std.specs.FinMap as map
use Rattle.std.specs.FinMap.{find, is_sorted, entries_sorted, get-entries}
use Rattle.std.specs.FinMap.Entries.{below_all}
use Rattle.std.proofs.lemmas.Bool.{cases_Bool, false≢true}
use Rattle.std.proofs.lemmas.List.Elements.{All-nil, All-cons}
use Rattle.link_tree.specs.declared.entry.Entry.{Entry}
use Rattle.link_tree.specs.declared.change.Change.{Change}
use Rattle.unit_paths.specs.Slots.{is_slot}
use Rattle.link_tree.specs.Trees.{path_cmp, Entries, KeepsPath, AreFrom, set_entry}
use Rattle.link_tree.proofs.Keys.{same-found}
use Rattle.link_tree.proofs.Maps.{first, second, less, none_some, found_later}
use Rattle.link_tree.proofs.Shapes.{same_key}
use Rattle.link_tree.proofs.Changed.{is_at, at_bytes, same_tree, after_at, after_at-kept, get-after_changes, get-set_entry}
use Rattle.link_tree.specs.Differences.{same, change, differences, changes_between, DifferAtSlots}
use Rattle.link_tree.specs.Laws.{Leads}
use Rattle.link_tree.proofs.Differences.{change_at, get-differences, same_is, same-itself}

-- a path with the change there
abbrev Row : Type 0
Row = List ℕ × Change

abbrev changes_of : List Row → List Change
changes_of es = list_map (λ e. e.1) es

abbrev paths_of : List Row → List (List ℕ)
paths_of es = list_map (λ c. c.path) (changes_of es)

-- a path that is less than another is a different path
apart : (q p : List ℕ) → T (is_lt (path_cmp q p)) → is_at q p ≡ false
apart q p h = ap is_eq (less (path_cmp q p) h)

-- the entry after a change, if there is one
abbrev pub after_found : Option Change → Option Entry → Option Entry
after_found None o = o
after_found (Some c) o = c.after

module _ (t u : Entries) where
  -- the entries at a path in both trees, as a change
  abbrev change_of : List ℕ → Change
  change_of path = change path (map.get t path) (map.get u path)

  -- at each path the two trees differ, and the change there is the difference
  abbrev Differ : List Row → Type 0
  Differ [] = Unit {0}
  Differ (e ∷ es) = (e.1 ≡ change_of e.0) × (same (map.get t e.0) (map.get u e.0) ≡ false) × Differ es

  differs : (path : List ℕ) (c : Change) → change_at t u path ≡ Some c → (c ≡ change_of path) × (same (map.get t path) (map.get u path) ≡ false)
  differs path c found = elim (cases_Bool (same (map.get t path) (map.get u path))) [
    | inl alike ↦ none_some c (rw alike at found)
    | inr other ↦ (let here : Some (change_of path) ≡ Some c = rw other at found in (cc, other))
  ]

  all_differ : (es : List Row) → T (is_sorted path_cmp es) → ((q : List ℕ) (c : Change) → find path_cmp q es ≡ Some c → change_at t u q ≡ Some c) → Differ es
  all_differ [] order h = tt
  all_differ (e ∷ es) order h =
      let here = differs e.0 e.1 (h e.0 e.1 (ap (λ b. cond b (Some e.1) (find path_cmp e.0 es)) (same-found e.0))) in
      (here.0, here.1, all_differ es (second _ _ order) (λ q c found. h q c (found_later e es q c (first _ _ order) found)))

  abbrev rows : List Row
  rows = map.entries (differences t u)

  in_order : T (is_sorted path_cmp rows)
  in_order = entries_sorted (differences t u)

  found_at : (q : List ℕ) → find path_cmp q rows ≡ change_at t u q
  found_at q = sym (get-entries (differences t u) q) ∙ get-differences t u q

  rows_differ : Differ rows
  rows_differ = all_differ rows in_order (λ q c found. sym (found_at q) ∙ found)

  -- changes of later paths don't affect an earlier one
  keeps_below : (q : List ℕ) (es : List Row) → Differ es → T (below_all path_cmp q es) → KeepsPath q (changes_of es)
  keeps_below q [] d below = tt
  keeps_below q (e ∷ es) d below =
      (ap (λ c. bytes_eq q c.path) d.0 ∙ sym (at_bytes q e.0) ∙ apart q e.0 (first _ _ below), keeps_below q es d.2 (second _ _ below))

  rows_from : (es : List Row) → Differ es → T (is_sorted path_cmp es) → AreFrom t (changes_of es)
  rows_from [] d order = tt
  rows_from (e ∷ es) d order = (
    ap (λ c. map.get t c.path) d.0 ∙ sym (ap (λ c. c.before) d.0),
    subst (λ c. KeepsPath c.path (changes_of es)) (sym d.0) (keeps_below e.0 es d.2 (first _ _ order)),
    rows_from es d.2 (second _ _ order),
  )

  after_rows : (es : List Row) (q : List ℕ) (o : Option Entry) → Differ es → T (is_sorted path_cmp es) → after_at (changes_of es) q o ≡ after_found (find path_cmp q es) o
  after_rows [] q o d order = refl
  after_rows (e ∷ es) q o d order =
      let same_test : bytes_eq q e.1.path ≡ is_at q e.0 = ap (λ c. bytes_eq q c.path) d.0 ∙ sym (at_bytes q e.0) in
      ap (λ b. after_at (changes_of es) q (cond b e.1.after o)) same_test
      ∙ elim (cases_Bool (is_at q e.0)) [
        | inl here ↦ rw here (after_at-kept (changes_of es) q e.1.after (subst (λ p. KeepsPath p (changes_of es)) (sym (same_key q e.0 here)) (keeps_below e.0 es d.2 (first _ _ order))))
        | inr away ↦ rw away (after_rows es q o d.2 (second _ _ order))
      ]

  changed_there : (q : List ℕ) → after_found (change_at t u q) (map.get t q) ≡ map.get u q
  changed_there q = elim (cases_Bool (same (map.get t q) (map.get u q))) [
    | inl alike ↦ rw alike (same_is (map.get t q) (map.get u q) alike)
    | inr other ↦ rw other refl
  ]

  -- the entry in the second tree follows from the change at the path, or from the first tree
  pub there : (q : List ℕ) → after_found (map.get (differences t u) q) (map.get t q) ≡ map.get u q
  there q = ap (λ found. after_found found (map.get t q)) (get-differences t u q) ∙ changed_there q

  not_alike : (path : List ℕ) → same (map.get t path) (map.get u path) ≡ false → map.get t path ≢ map.get u path
  not_alike path other equal = false≢true (sym other ∙ ap (same (map.get t path)) (sym equal) ∙ same-itself (map.get t path))

  rows_real : (es : List Row) → Differ es → All (λ change. change.before ≢ change.after) (changes_of es)
  rows_real [] d = All-nil (λ change. change.before ≢ change.after)
  rows_real (e ∷ es) d = All-cons (λ change. change.before ≢ change.after) e.1 (changes_of es) (subst (λ c. c.before ≢ c.after) (sym d.0) (not_alike e.0 d.1)) (rows_real es d.2)

  rows_below : (q : List ℕ) (es : List Row) → Differ es → T (below_all path_cmp q es) → AllByRecursion (λ p. path_cmp q p ≡ Less) (paths_of es)
  rows_below q [] d below = tt
  rows_below q (e ∷ es) d below = (ap (λ c. path_cmp q c.path) d.0 ∙ less (path_cmp q e.0) (first _ _ below), rows_below q es d.2 (second _ _ below))

  rows_in_order : (es : List Row) → Differ es → T (is_sorted path_cmp es) → IsStrictlySortedBy path_cmp (paths_of es)
  unfolding IsStrictlySortedBy
  rows_in_order [] d order = tt
  rows_in_order (e ∷ es) d order =
      (subst (λ c. AllByRecursion (λ p. path_cmp c.path p ≡ Less) (paths_of es)) (sym d.0) (rows_below e.0 es d.2 (first _ _ order)), rows_in_order es d.2 (second _ _ order))

  pub leads : Leads t u (changes_between t u)
  unfolding changes_between
  leads = record {
    from = rows_from rows rows_differ in_order;
    to = same_tree _ _ (λ q. get-after_changes (changes_of rows) t q ∙ after_rows rows q (map.get t q) rows_differ in_order ∙ ap (λ found. after_found found (map.get t q)) (found_at q) ∙ changed_there q);
    real = rows_real rows rows_differ;
    in_order = rows_in_order rows rows_differ in_order;
  }

  -- what is true of each path at which the trees differ
  module _ (P : List ℕ → Type 0) (at : (path : List ℕ) → same (map.get t path) (map.get u path) ≡ false → P path) where
    rows_at : (es : List Row) → Differ es → All (λ change. P change.path) (changes_of es)
    rows_at [] d = All-nil (λ change. P change.path)
    rows_at (e ∷ es) d = All-cons (λ change. P change.path) e.1 (changes_of es) (subst (λ c. P c.path) (sym d.0) (at e.0 d.1)) (rows_at es d.2)

    -- it is true of each changed path
    pub changes_at : All (λ change. P change.path) (changes_between t u)
    unfolding changes_between
    changes_at = rows_at rows rows_differ

  -- if the trees differ only at slots, all changes are at slots
  pub changes_at_slots : DifferAtSlots t u → All (λ change. is_slot change.path ≡ true) (changes_between t u)
  changes_at_slots alike = changes_at (λ path. is_slot path ≡ true) slot_at
    where
      slot_at : (path : List ℕ) → same (map.get t path) (map.get u path) ≡ false → is_slot path ≡ true
      slot_at path other = elim (cases_Bool (is_slot path)) [
        | inl slot ↦ slot
        | inr off ↦ absurd (not_alike path other (alike path off))
      ]

-- trees that differ only at slots still do after an entry was set at a slot
pub set_at_slot : (t u : Entries) (slot : List ℕ) (o : Option Entry) → is_slot slot ≡ true → DifferAtSlots t u → DifferAtSlots t (set_entry u slot o)
set_at_slot t u slot o here alike path off = elim (cases_Bool (is_at path slot)) [
  | inl same ↦ absurd (false≢true (sym off ∙ ap is_slot (same_key path slot same) ∙ here))
  | inr away ↦ alike path off ∙ sym (get-set_entry u slot o path ∙ ap (λ b. cond b o (map.get u path)) away)
]
