-- The changes between two trees, path by path.
use Rattle.std.proofs.Common.{◌≡◌, ℕ, Bool, true, false, cond, ◌||◌, List, [], ◌∷◌, ◌++◌, Option, Some, None, refl, sym, ◌∙◌, ap, subst, inl, inr}
use Rattle.std.specs.Prelude.{is_some}
use Rattle.std.specs.List.{flat_map, list_any}
use Rattle.std.specs.Cmp.Lexicographic.{nat_list_cmp_total}
use Rattle.std.specs.FinMap as map
use Rattle.std.specs.FinMap.{find}
use Rattle.std.proofs.lemmas.Bool.{cases_Bool, or_parts, false≢true}
use Rattle.link_tree.specs.declared.entry.Entry.{Entry}
use Rattle.link_tree.specs.declared.change.Change.{Change}
use Rattle.link_tree.specs.Trees.{path_cmp, Entries, set_entry}
use Rattle.std.proofs.lemmas.Map.Lookups.{exact_bytes}
use Rattle.link_tree.proofs.Shapes.{same_key}
use Rattle.link_tree.proofs.Changed.{is_at, get-set_entry}
use Rattle.link_tree.proofs.Same.{same_entries}
use Rattle.link_tree.specs.Differences.{same, change, with_change, difference, differences}

-- the value of the changes at a path
abbrev pub change_at : Entries → Entries → List ℕ → Option Change
change_at t u q = cond (same (map.get t q) (map.get u q)) None (Some (change q (map.get t q) (map.get u q)))

find-piece : (q p : List ℕ) (b : Bool) (c : Change) (rest : List (List ℕ × Change)) → find path_cmp q (cond b [] ((p, c) ∷ []) ++ rest) ≡ cond (is_at q p) (cond b (find path_cmp q rest) (Some c)) (find path_cmp q rest)
find-piece q p true c rest = sym (cond_same (is_at q p) (find path_cmp q rest))
  where
    cond_same : (b : Bool) (o : Option Change) → cond b o o ≡ o
    cond_same true o = refl
    cond_same false o = refl
find-piece q p false c rest = refl

module _ (t u : Entries) (q : List ℕ) where
  abbrev alike_at : List ℕ → Bool
  alike_at p = same (map.get t p) (map.get u p)

  abbrev change_of : List ℕ → Change
  change_of p = change p (map.get t p) (map.get u p)

  step : (p : List ℕ) (any : Bool) → cond (is_at q p) (cond (alike_at p) (cond any (change_at t u q) None) (Some (change_of p))) (cond any (change_at t u q) None) ≡ cond (is_at q p || any) (change_at t u q) None
  step p any = elim (cases_Bool (is_at q p)) [
    | inl here ↦ rw here (subst (λ k. cond (alike_at k) (cond any (change_at t u q) None) (Some (change_of k)) ≡ change_at t u q) (same_key q p here) (here_too any (alike_at q) (change_of q)))
    | inr away ↦ rw away refl
  ]
    where
      here_too : (any b : Bool) (c : Change) → cond b (cond any (cond b None (Some c)) None) (Some c) ≡ cond b None (Some c)
      here_too true true c = refl
      here_too false true c = refl
      here_too any false c = refl

  find-differences : (ps : List (List ℕ)) → find path_cmp q (flat_map (difference t u) ps) ≡ cond (list_any (is_at q) ps) (change_at t u q) None
  find-differences [] = refl
  find-differences (p ∷ ps) =
      find-piece q p (alike_at p) (change_of p) (flat_map (difference t u) ps)
      ∙ ap (λ o. cond (is_at q p) (cond (alike_at p) o (Some (change_of p))) o) (find-differences ps)
      ∙ step p (list_any (is_at q) ps)

  any-append : (ps qs : List (List ℕ)) → list_any (is_at q) (ps ++ qs) ≡ (list_any (is_at q) ps || list_any (is_at q) qs)
  any-append [] qs = refl
  any-append (p ∷ ps) qs = ap (λ b. is_at q p || b) (any-append ps qs) ∙ or_assoc (is_at q p) _ _
    where
      or_assoc : (x y z : Bool) → (x || (y || z)) ≡ ((x || y) || z)
      or_assoc true y z = refl
      or_assoc false y z = refl

  no_entry : (o : Option Entry) → is_some o ≡ false → o ≡ None
  no_entry None h = refl
  no_entry (Some entry) h = absurd (false≢true (sym h))

  -- a path that is in neither tree has no change
  all_paths : (b : Bool) → list_any (is_at q) (map.keys t ++ map.keys u) ≡ b → cond b (change_at t u q) None ≡ change_at t u q
  all_paths true h = refl
  all_paths false h =
      let off = or_parts (list_any (is_at q) (map.keys t)) (list_any (is_at q) (map.keys u)) (sym (any-append (map.keys t) (map.keys u)) ∙ h) in
      rw (no_entry (map.get t q) (map.contains_key-keys t q ∙ off.0), no_entry (map.get u q) (map.contains_key-keys u q ∙ off.1)) refl

  pub get-differences : map.get (differences t u) q ≡ change_at t u q
  unfolding differences
  get-differences =
      map.get-from_entries nat_list_cmp_total (flat_map (difference t u) (map.keys t ++ map.keys u)) q
      ∙ find-differences (map.keys t ++ map.keys u)
      ∙ all_paths (list_any (is_at q) (map.keys t ++ map.keys u)) refl

pub same_differences : (m n : map.FinMap path_cmp Change) → ((q : List ℕ) → map.get m q ≡ map.get n q) → m ≡ n
same_differences m n h = map.same_map nat_list_cmp_total exact_bytes m n h

pub same-itself : (o : Option Entry) → same o o ≡ true
same-itself None = refl
same-itself (Some entry) = (same_entries entry entry).1 refl

-- there are no changes from a tree to itself
pub differences-same : (t : Entries) → differences t t ≡ map.empty
differences-same t = same_differences (differences t t) map.empty (λ q. get-differences t t q ∙ ap (λ b. cond b None (Some (change q (map.get t q) (map.get t q)))) (same-itself (map.get t q)) ∙ sym (map.get-empty path_cmp q))

pub same_is : (o p : Option Entry) → same o p ≡ true → o ≡ p
same_is None None h = refl
same_is None (Some e) h = absurd (false≢true h)
same_is (Some e) None h = absurd (false≢true h)
same_is (Some one) (Some other) h = ap (λ entry. Some entry) ((same_entries one other).0 h)

-- the change at a path, by the entry there now
abbrev change_to : Entries → List ℕ → Option Entry → Option Change
change_to t q there = cond (same (map.get t q) there) None (Some (change q (map.get t q) there))

-- the change recorded when an entry is set is the actual change at its path
pub differences-set : (t u : Entries) (p : List ℕ) (o : Option Entry) → with_change (differences t u) p (map.get t p) o ≡ differences t (set_entry u p o)
differences-set t u p o = same_differences _ _ (λ q. noted q ∙ sym (get-differences t (set_entry u p o) q ∙ ap (λ there. cond (same (map.get t q) there) None (Some (change q (map.get t q) there))) (get-set_entry u p o q)))
  where
    set_at : (q : List ℕ) (b : Bool) (c : Change) → map.get (cond b (map.remove (differences t u) p) (map.insert (differences t u) p c)) q ≡ cond (is_at q p) (cond b None (Some c)) (map.get (differences t u) q)
    set_at q true c = map.get-remove nat_list_cmp_total (differences t u) p q
    set_at q false c = map.get-insert nat_list_cmp_total (differences t u) p c q

    at_path : (q : List ℕ) (b : Bool) → is_at q p ≡ b → cond b (change_to t p o) (change_at t u q) ≡ change_to t q (cond b o (map.get u q))
    at_path q true here = sym (ap (λ k. change_to t k o) (same_key q p here))
    at_path q false away = refl

    noted : (q : List ℕ) → map.get (with_change (differences t u) p (map.get t p) o) q ≡ change_to t q (cond (is_at q p) o (map.get u q))
    noted q =
        set_at q (same (map.get t p) o) (change p (map.get t p) o)
        ∙ ap (cond (is_at q p) (change_to t p o)) (get-differences t u q)
        ∙ at_path q (is_at q p) refl
