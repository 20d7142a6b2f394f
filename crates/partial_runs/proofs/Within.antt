-- Trees that are within others, by their numbers of entries.
use Rattle.std.proofs.Common.{◌≡◌, ◌+◌, ◌-◌, ◌≤◌, ℕ, zero, suc, true, false, cond, T, List, [], ◌∷◌, length, Option, Some, None, refl, sym, ap, subst, ◌∙◌, inl, inr, ◌⊎◌, arith}
use Rattle.std.specs.Prelude.{is_some}
use Rattle.std.specs.Cmp.{tied_itself}
use Rattle.std.specs.Cmp.Lexicographic.{nat_list_cmp_total}
use Rattle.std.specs.Ordering.{is_eq}
use Rattle.std.specs.FinMap as map
use Rattle.std.specs.FinMap.Entries.{below_all}
use Rattle.std.specs.FinMap.{find, is_sorted, entries_sorted, get-entries}
use Rattle.std.proofs.lemmas.Bool.{cases_Bool}
use Rattle.link_tree.specs.declared.entry.Entry.{Entry}
use Rattle.link_tree.specs.Trees.{Entries, path_cmp}
use Rattle.link_tree.proofs.Changed.{is_at, same_tree}
use Rattle.link_tree.proofs.Maps.{first, second, none_below, found_later}
use Rattle.link_tree.proofs.Shapes.{same_key}
use Rattle.partial_runs.specs.Runs.{IsWithin}

no_some : {X P : Type 0} (x : X) → None ≡ Some x → P
no_some x h = cc

some_is : {X : Type 0} {x y : X} → Some x ≡ Some y → x ≡ y
some_is h = cc

-- a tree that has an entry isn't empty
not_none : (u : Entries) (path : List ℕ) (entry : Entry) (n : ℕ) → map.len u ≡ n → map.get u path ≡ Some entry → map.len u ≡ suc (n - 1)
not_none u path entry zero none there =
    no_some entry (sym (map.get-empty path_cmp path) ∙ ap (λ m. map.get m path) (sym (map.empty_of_len u none)) ∙ there)
not_none u path entry (suc n) is there = let one : suc n - 1 ≡ n = omega arith in is ∙ ap suc (sym one)

-- entries that a tree has aren't more than its own
no_more : (es : List (List ℕ × Entry)) → T (is_sorted path_cmp es) → (u : Entries) → ((path : List ℕ) (entry : Entry) → find path_cmp path es ≡ Some entry → map.get u path ≡ Some entry)
    → length es ≤ map.len u
no_more [] order u has = omega arith
no_more (e ∷ es) order u has =
    let below = first (below_all path_cmp e.0 es) (is_sorted path_cmp es) order in
    let here : map.get u e.0 ≡ Some e.1 = has e.0 e.1 (first_found e es) in
    let less : map.len (map.remove u e.0) ≡ map.len u - 1 =
    map.len-remove nat_list_cmp_total u e.0 ∙ ap (λ b. cond b (map.len u - 1) (map.len u)) (ap is_some here) in
    let some : map.len u ≡ suc (map.len u - 1) = not_none u e.0 e.1 (map.len u) refl here in
    let rest : length es ≤ map.len (map.remove u e.0) = no_more es (second (below_all path_cmp e.0 es) (is_sorted path_cmp es) order) (map.remove u e.0) (λ path entry found. still path entry below found (cases_Bool (is_at path e.0))) in
    omega (arith, less, some, rest)
  where
    first_found : (e : List ℕ × Entry) (es : List (List ℕ × Entry)) → find path_cmp e.0 (e ∷ es) ≡ Some e.1
    first_found e es = ap (λ b. cond b (Some e.1) (find path_cmp e.0 es)) (ap is_eq (tied_itself nat_list_cmp_total e.0))

    still : (path : List ℕ) (entry : Entry) → T (below_all path_cmp e.0 es) → find path_cmp path es ≡ Some entry → (is_at path e.0 ≡ true) ⊎ (is_at path e.0 ≡ false) → map.get (map.remove u e.0) path ≡ Some entry
    still path entry below found (inl at) = no_some entry (sym (none_below e.0 es below) ∙ ap (λ q. find path_cmp q es) (sym (same_key path e.0 at)) ∙ found)
    still path entry below found (inr off) =
        map.get-remove nat_list_cmp_total u e.0 path ∙ ap (λ b. cond b None (map.get u path)) off ∙ has path entry (found_later e es path entry below found)

pub len_within : (t u : Entries) → IsWithin t u → map.len t ≤ map.len u
len_within t u within =
    subst (λ n. n ≤ map.len u) (sym (map.len-entries t))
    (no_more (map.entries t) (entries_sorted t) u (λ path entry found. within path entry (get-entries t path ∙ found)))

-- If the other tree has no more entries, it is the same.
pub same_within : (t u : Entries) → IsWithin t u → map.len u ≤ map.len t → t ≡ u
same_within t u within few = same_tree t u (λ path. at path (map.get t path) refl (map.get u path) refl)
  where
    at : (path : List ℕ) (here : Option Entry) → map.get t path ≡ here → (there : Option Entry) → map.get u path ≡ there → map.get t path ≡ map.get u path
    at path (Some entry) here there is = here ∙ sym (within path entry here)
    at path None here None is = here ∙ sym is
    at path None here (Some entry) is =
        let longer : map.len (map.insert t path entry) ≡ map.len t + 1 =
        map.len-insert nat_list_cmp_total t path entry ∙ ap (λ b. cond b (map.len t) (map.len t + 1)) (ap is_some here) in
        let bound : map.len (map.insert t path entry) ≤ map.len u = len_within (map.insert t path entry) u (λ q other found. more q other found (cases_Bool (is_at q path))) in
        absurd (omega (arith, longer, bound, few))
      where
        get_more : (q : List ℕ) → map.get (map.insert t path entry) q ≡ cond (is_at q path) (Some entry) (map.get t q)
        get_more q = map.get-insert nat_list_cmp_total t path entry q

        more : (q : List ℕ) (other : Entry) → map.get (map.insert t path entry) q ≡ Some other → (is_at q path ≡ true) ⊎ (is_at q path ≡ false) → map.get u q ≡ Some other
        more q other found (inl same) = ap (map.get u) (same_key q path same) ∙ is ∙ sym (get_more q ∙ ap (λ b. cond b (Some entry) (map.get t q)) same) ∙ found
        more q other found (inr off) = within q other (sym (get_more q ∙ ap (λ b. cond b (Some entry) (map.get t q)) off) ∙ found)
