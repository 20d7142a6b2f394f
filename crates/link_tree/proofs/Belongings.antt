-- The links that belong to a name after one entry has changed.
use Rattle.std.proofs.Common.{◌≡◌, ℕ, Bool, true, false, cond, not, ◌&&◌, T, List, [], ◌∷◌, Option, Some, None, refl, sym, ap, subst, ◌∙◌, inl, inr}
use Rattle.std.specs.Prelude.{map as list_map}
use Rattle.std.specs.List.{filter}
use Rattle.std.specs.BTreeMap.{is_at}
use Rattle.std.specs.Cmp.{eq_by_cmp_equiv}
use Rattle.std.specs.Cmp.Lexicographic.{nat_list_cmp_total}
use Rattle.std.specs.Ordering.{is_eq, eq_by_cmp, match_ordering}
use Rattle.std.specs.FinMap as map
use Rattle.std.specs.FinMap.Entries.{find, put, where_key, below_all, is_sorted, is_sorted-where_key, find-where_key, by_order}
use Rattle.std.specs.declared.cmp.Ordering.TheVariants.{Less, Equal, Greater}
use Rattle.std.proofs.lemmas.Bool.{cases_Bool}
use Rattle.std.proofs.lemmas.Map.Lookups.{exact_bytes}
use Rattle.link_tree.specs.Trees.{Entries, path_cmp, set_entry}
use Rattle.link_tree.specs.declared.entry.Entry.{Entry}
use Rattle.unit_paths.specs.declared.place.Scope.{Scope}
use Rattle.link_tree.proofs.Changed.{same_tree, get-set_entry}
use Rattle.link_tree.proofs.Maps.{first, second, less}
use Rattle.link_tree.proofs.Shapes.{same_key}
use Rattle.name_lists.specs.Lists.{with_path, without_path, relisted}
use Rattle.link_tree.specs.Links.{belongs}
use Rattle.link_tree.specs.Belonging.{belonging, holds_at}

-- the entries of a map that pass a test are a map
module _ (f : List ℕ → Entry → Bool) where
  abbrev kept : List (List ℕ × Entry) → List (List ℕ × Entry)
  kept es = filter (λ e. f e.0 e.1) es

  abbrev passes : List ℕ → Option Entry → Option Entry
  passes q None = None
  passes q (Some e) = cond (f q e) (Some e) None

  both : (a b : Bool) → T a → T b → T (a && b)
  both true b h k = k
  both false b h k = absurd h

  below_kept : (k : List ℕ) (es : List (List ℕ × Entry)) → T (below_all path_cmp k es) → T (below_all path_cmp k (kept es))
  below_kept k [] h = tt
  below_kept k (e ∷ es) h = elim (f e.0 e.1) as (λ b. T (below_all path_cmp k (cond b (e ∷ kept es) (kept es)))) [
    | true ↦ both _ _ (first _ _ h) (below_kept k es (second _ _ h))
    | false ↦ below_kept k es (second _ _ h)
  ]

  sorted_kept : (es : List (List ℕ × Entry)) → T (is_sorted path_cmp es) → T (is_sorted path_cmp (kept es))
  sorted_kept [] h = tt
  sorted_kept (e ∷ es) h = elim (f e.0 e.1) as (λ b. T (is_sorted path_cmp (cond b (e ∷ kept es) (kept es)))) [
    | true ↦ both _ _ (below_kept e.0 es (first _ _ h)) (sorted_kept es (second _ _ h))
    | false ↦ sorted_kept es (second _ _ h)
  ]

  none_kept : (q : List ℕ) (es : List (List ℕ × Entry)) → T (below_all path_cmp q es) → find path_cmp q (kept es) ≡ None
  none_kept q [] h = refl
  none_kept q (e ∷ es) h = elim (f e.0 e.1) as (λ b. find path_cmp q (cond b (e ∷ kept es) (kept es)) ≡ None) [
    | true ↦ ap (λ r. cond (is_eq r) (Some e.1) (find path_cmp q (kept es))) (less (path_cmp q e.0) (first _ _ h)) ∙ none_kept q es (second _ _ h)
    | false ↦ none_kept q es (second _ _ h)
  ]

  find_kept : (q : List ℕ) (es : List (List ℕ × Entry)) → T (is_sorted path_cmp es) → find path_cmp q (kept es) ≡ passes q (find path_cmp q es)
  find_kept q [] h = refl
  find_kept q (e ∷ es) h = elim (is_at (path_cmp q) e.0) as (λ t. is_at (path_cmp q) e.0 ≡ t → find path_cmp q (kept (e ∷ es)) ≡ passes q (cond t (Some e.1) (find path_cmp q es))) [
    | true ↦ λ here.
        let same : q ≡ e.0 = same_key q e.0 here in
        elim (f e.0 e.1) as (λ b. f e.0 e.1 ≡ b → find path_cmp q (cond b (e ∷ kept es) (kept es)) ≡ cond (f q e.1) (Some e.1) None) [
          | true ↦ λ is. ap (λ b. cond b (Some e.1) (find path_cmp q (kept es))) here ∙ sym (ap (λ b. cond b (Some e.1) None) (ap (λ (p : List ℕ). f p e.1) same ∙ is))
          | false ↦ λ is. none_kept q es (subst (λ (p : List ℕ). T (below_all path_cmp p es)) (sym same) (first _ _ h)) ∙ sym (ap (λ b. cond b (Some e.1) None) (ap (λ (p : List ℕ). f p e.1) same ∙ is))
        ] refl
    | false ↦ λ away.
        elim (f e.0 e.1) as (λ b. find path_cmp q (cond b (e ∷ kept es) (kept es)) ≡ passes q (find path_cmp q es)) [
          | true ↦ ap (λ b. cond b (Some e.1) (find path_cmp q (kept es))) away ∙ find_kept q es (second _ _ h)
          | false ↦ find_kept q es (second _ _ h)
        ]
  ] refl

  abbrev those : Entries → Entries
  those m = map.from_sorted (kept (map.entries m))

  entries_those : (m : Entries) → map.entries (those m) ≡ kept (map.entries m)
  entries_those m = map.entries-from_sorted path_cmp (kept (map.entries m)) (sorted_kept (map.entries m) (map.entries_sorted m))

  get_those : (m : Entries) (q : List ℕ) → map.get (those m) q ≡ passes q (map.get m q)
  get_those m q =
      map.get-from_sorted path_cmp (kept (map.entries m)) q (sorted_kept (map.entries m) (map.entries_sorted m))
      ∙ find_kept q (map.entries m) (map.entries_sorted m)
      ∙ ap (passes q) (sym (map.get-entries m q))

  those_set : (m : Entries) (p : List ℕ) (o : Option Entry) → those (set_entry m p o) ≡ set_entry (those m) p (passes p o)
  those_set m p o = same_tree _ _ (λ q.
      get_those (set_entry m p o) q ∙ ap (passes q) (get-set_entry m p o q)
      ∙ elim (cases_Bool (eq_by_cmp path_cmp q p)) as (λ x. passes q (cond (eq_by_cmp path_cmp q p) o (map.get m q)) ≡ cond (eq_by_cmp path_cmp q p) (passes p o) (map.get (those m) q)) [
        | inl here ↦ ap (λ b. passes q (cond b o (map.get m q))) here ∙ ap (λ (r : List ℕ). passes r o) (same_key q p here) ∙ sym (ap (λ b. cond b (passes p o) (map.get (those m) q)) here)
        | inr away ↦ ap (λ b. passes q (cond b o (map.get m q))) away ∙ sym (get_those m q) ∙ sym (ap (λ b. cond b (passes p o) (map.get (those m) q)) away)
      ]
      ∙ sym (get-set_entry (those m) p (passes p o) q))

keys_put : (p : List ℕ) (x : Entry) (es : List (List ℕ × Entry)) → list_map (λ e. e.0) (put path_cmp p x es) ≡ with_path p (list_map (λ e. e.0) es)
keys_put p x [] = refl
keys_put p x (e ∷ es) = elim (path_cmp p e.0) as (λ r. list_map (λ e. e.0) (by_order r ((p, x) ∷ e ∷ es) ((e.0, x) ∷ es) (e ∷ put path_cmp p x es)) ≡ match_ordering r (p ∷ e.0 ∷ list_map (λ e. e.0) es) (e.0 ∷ list_map (λ e. e.0) es) (e.0 ∷ with_path p (list_map (λ e. e.0) es))) [
  | Less ↦ refl
  | Equal ↦ refl
  | Greater ↦ ap (λ ps. e.0 ∷ ps) (keys_put p x es)
]

keys_where : (g : List ℕ → Bool) (es : List (List ℕ × Entry)) → list_map (λ e. e.0) (where_key path_cmp g es) ≡ filter g (list_map (λ e. e.0) es)
keys_where g [] = refl
keys_where g (e ∷ es) = elim (g e.0) as (λ b. list_map (λ e. e.0) (cond b (e ∷ where_key path_cmp g es) (where_key path_cmp g es)) ≡ cond b (e.0 ∷ filter g (list_map (λ e. e.0) es)) (filter g (list_map (λ e. e.0) es))) [
  | true ↦ ap (λ ps. e.0 ∷ ps) (keys_where g es)
  | false ↦ keys_where g es
]

keys_inserted : (m : Entries) (p : List ℕ) (x : Entry) → map.keys (map.insert m p x) ≡ with_path p (map.keys m)
keys_inserted m p x = ap (list_map (λ e. e.0)) (map.entries-insert nat_list_cmp_total m p x) ∙ keys_put p x (map.entries m)

not_at : (b : Bool) (o : Option Entry) → cond (not b) o None ≡ cond b None o
not_at true o = refl
not_at false o = refl

removed_is : (m : Entries) (p : List ℕ) → map.remove m p ≡ map.from_sorted (where_key path_cmp (λ x. not (eq_by_cmp path_cmp p x)) (map.entries m))
removed_is m p = same_tree _ _ (λ q.
    map.get-remove nat_list_cmp_total m p q
    ∙ ap (λ b. cond b None (map.get m q)) ((eq_by_cmp_equiv nat_list_cmp_total).symm q p)
    ∙ sym (
    map.get-from_sorted path_cmp (where_key path_cmp (λ x. not (eq_by_cmp path_cmp p x)) (map.entries m)) q (is_sorted-where_key path_cmp (λ x. not (eq_by_cmp path_cmp p x)) (map.entries m) (map.entries_sorted m))
    ∙ find-where_key path_cmp (λ x. not (eq_by_cmp path_cmp p x)) q (λ x is. ap (λ (y : List ℕ). not (eq_by_cmp path_cmp p y)) (sym (exact_bytes q x is))) (map.entries m)
    ∙ ap (λ o. cond (not (eq_by_cmp path_cmp p q)) o None) (sym (map.get-entries m q))
    ∙ not_at (eq_by_cmp path_cmp p q) (map.get m q)))

keys_removed : (m : Entries) (p : List ℕ) → map.keys (map.remove m p) ≡ without_path p (map.keys m)
keys_removed m p =
    ap (λ n. map.keys n) (removed_is m p)
    ∙ ap (list_map (λ e. e.0)) (map.entries-from_sorted path_cmp (where_key path_cmp (λ x. not (eq_by_cmp path_cmp p x)) (map.entries m)) (is_sorted-where_key path_cmp (λ x. not (eq_by_cmp path_cmp p x)) (map.entries m) (map.entries_sorted m)))
    ∙ keys_where (λ x. not (eq_by_cmp path_cmp p x)) (map.entries m)

keys_set : (f : List ℕ → Entry → Bool) (scope : Scope) (name p : List ℕ) (o : Option Entry) (m : Entries) → map.keys (set_entry m p (passes (belongs scope name) p o)) ≡ relisted (holds_at scope name p o) p (map.keys m)
keys_set f scope name p None m = keys_removed m p
keys_set f scope name p (Some e) m = elim (belongs scope name p e) as (λ b. map.keys (set_entry m p (cond b (Some e) None)) ≡ relisted b p (map.keys m)) [
  | true ↦ keys_inserted m p e
  | false ↦ keys_removed m p
]

-- the list of a name, computed from the list before
pub belonging_set : (scope : Scope) (name : List ℕ) (m : Entries) (p : List ℕ) (o : Option Entry) → belonging scope name (set_entry m p o) ≡ relisted (holds_at scope name p o) p (belonging scope name m)
belonging_set scope name m p o =
    ap (list_map (λ e. e.0)) (sym (entries_those (belongs scope name) (set_entry m p o)))
    ∙ ap (λ n. map.keys n) (those_set (belongs scope name) m p o)
    ∙ keys_set (belongs scope name) scope name p o (those (belongs scope name) m)
    ∙ ap (λ es. relisted (holds_at scope name p o) p (list_map (λ e. e.0) es)) (entries_those (belongs scope name) m)

-- removing what isn't there changes nothing
not_there : (m : Entries) (p : List ℕ) → map.get m p ≡ None → map.remove m p ≡ m
not_there m p none = same_tree _ _ (λ q. map.get-remove nat_list_cmp_total m p q ∙ elim (cases_Bool (eq_by_cmp path_cmp q p)) as (λ x. cond (eq_by_cmp path_cmp q p) None (map.get m q) ≡ map.get m q) [
  | inl here ↦ ap (λ b. cond b None (map.get m q)) here ∙ sym (ap (map.get m) (same_key q p here) ∙ none)
  | inr away ↦ ap (λ b. cond b None (map.get m q)) away
])

none_held : (scope : Scope) (name p : List ℕ) (o : Option Entry) → holds_at scope name p o ≡ false → passes (belongs scope name) p o ≡ None
none_held scope name p None none = refl
none_held scope name p (Some e) none = ap (λ b. cond b (Some e) None) none

-- the list of a name to which neither the old nor the new entry at the path belongs
pub belonging_kept : (scope : Scope) (name : List ℕ) (m : Entries) (p : List ℕ) (o : Option Entry) → holds_at scope name p (map.get m p) ≡ false → holds_at scope name p o ≡ false → belonging scope name (set_entry m p o) ≡ belonging scope name m
belonging_kept scope name m p o was now =
    ap (list_map (λ e. e.0)) (sym (entries_those (belongs scope name) (set_entry m p o)))
    ∙ ap (λ n. map.keys n) (those_set (belongs scope name) m p o ∙ ap (set_entry (those (belongs scope name) m) p) (none_held scope name p o now) ∙ not_there (those (belongs scope name) m) p (get_those (belongs scope name) m p ∙ none_held scope name p (map.get m p) was))
    ∙ ap (list_map (λ e. e.0)) (entries_those (belongs scope name) m)
