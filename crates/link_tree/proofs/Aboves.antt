-- The entries above a path: each directory in turn.
use Rattle.std.proofs.Common.{◌≡◌, refl, ℕ, Bool, true, false, ◌&&◌, ◌||◌, List, [], ◌∷◌, Option, Some, None, sym, ◌∙◌, ap, inl, inr}
use Rattle.std.specs.Prelude.{is_some, if◌then◌else◌}
use Rattle.std.specs.List.{list_any}
use Rattle.std.specs.Str.{bytes_eq}
use Rattle.std.specs.FinMap as map
use Rattle.std.specs.FinMap.{contains_key-keys}
use Rattle.std.specs.Ordering.{eq_by_cmp}
use Rattle.std.proofs.lemmas.Bool.{cases_Bool, false≢true, and_parts, false_from_ne_true}
use Rattle.std.proofs.lemmas.Slice.Eq.{bytes_eq-Decides}
use Rattle.unit_paths.proofs.Aboves.{beneath-parent, not_empty, root_is}
use Rattle.link_tree.specs.declared.entry.Entry.{Entry}
use Rattle.unit_paths.specs.Paths.{is_slash, is_path, is_absolute, is_root, parent, parent_of}
use Rattle.link_tree.specs.Values.{is_entry}
use Rattle.link_tree.specs.Trees.{Entries, path_cmp}
use Rattle.link_tree.specs.Shape.{IsTree, fits_at}
use Rattle.unit_paths.specs.Shape.{is_beneath}
use Rattle.link_tree.proofs.Keys.{same-found, any-keys}
use Rattle.link_tree.proofs.Shapes.{same_key}

-- whether an entry is at a directory or above it
abbrev pub found_above : Entries → Option (List ℕ) → Bool
found_above m None = false
found_above m (Some dir) = is_some (map.get m dir) || list_any (is_beneath dir) (map.keys m)

or_swap : (a b c d : Bool) → ((a || b) || (c || d)) ≡ ((a || c) || (b || d))
or_swap true b c d = refl
or_swap false true true d = refl
or_swap false true false d = refl
or_swap false false c d = refl

pub any_or : (f g h : List ℕ → Bool) → ((k : List ℕ) → f k ≡ (g k || h k)) → (ks : List (List ℕ)) → list_any f ks ≡ (list_any g ks || list_any h ks)
any_or f g h each [] = refl
any_or f g h each (k ∷ ks) = rw (each k, any_or f g h each ks) (or_swap (g k) (h k) (list_any g ks) (list_any h ks))

any_alike : (f g : List ℕ → Bool) → ((k : List ℕ) → f k ≡ g k) → (ks : List (List ℕ)) → list_any f ks ≡ list_any g ks
any_alike f g each [] = refl
any_alike f g each (k ∷ ks) = rw (each k, any_alike f g each ks) refl

pub same_test : (p k : List ℕ) → eq_by_cmp path_cmp p k ≡ bytes_eq k p
same_test p k = elim (cases_Bool (eq_by_cmp path_cmp p k)) [
  | inl same ↦ same ∙ sym ((bytes_eq-Decides k p).1 (sym (same_key p k same)))
  | inr other ↦ other ∙ sym (false_from_ne_true (bytes_eq k p) (λ same. false≢true (sym other ∙ ap (λ q. eq_by_cmp path_cmp p q) ((bytes_eq-Decides k p).0 same) ∙ same-found p)))
]

path_slash : (path : List ℕ) → is_path path ≡ true → list_any is_slash path ≡ true
unfolding is_path is_absolute
path_slash [] is = absurd (false≢true is)
path_slash (b ∷ bs) is = let slash : is_slash b ≡ true = (and_parts _ _ (and_parts _ _ (and_parts _ _ is).1).1).0 in rw slash refl

some_of : (o : Option Entry) → is_some o ≡ true → (e : Entry) × (o ≡ Some e)
some_of None h = absurd (false≢true h)
some_of (Some e) h = (e, refl)

-- the keys of a tree are paths
pub key_path : (m : Entries) (q : List ℕ) → IsTree m → list_any (eq_by_cmp path_cmp q) (map.keys m) ≡ true → is_path q ≡ true
unfolding fits_at
key_path m q tree key =
    let at = some_of (map.get m q) (contains_key-keys m q ∙ key) in
    (and_parts (is_path q) _ (and_parts (is_path q && is_entry at.0) _ (tree.fits q at.0 at.1)).0).0

pub found-parent : (m : Entries) (path : List ℕ) → IsTree m → is_path path ≡ true → found_above m (parent_of path) ≡ list_any (is_beneath path) (map.keys m)
unfolding is_beneath
found-parent m path tree is =
    let slash = path_slash path is in
    elim (is_root (parent path)) as (λ b. is_root (parent path) ≡ b → found_above m (if b then None else Some (parent path)) ≡ list_any (is_beneath path) (map.keys m)) [
      | true ↦ λ root. sym (any-keys (is_beneath path) (map.keys m) (λ q key.
          beneath-parent path q slash ∙ ap (λ dir. bytes_eq q dir || is_beneath dir q) (root_is (parent path) root) ∙ rw (not_empty q (key_path m q tree key)) refl))
      | false ↦ λ some.
          ap (λ b. b || list_any (is_beneath (parent path)) (map.keys m)) (contains_key-keys m (parent path) ∙ any_alike (eq_by_cmp path_cmp (parent path)) (λ k. bytes_eq k (parent path)) (same_test (parent path)) (map.keys m))
          ∙ sym (any_or (is_beneath path) (λ k. bytes_eq k (parent path)) (is_beneath (parent path)) (λ k. beneath-parent path k slash) (map.keys m))
    ] refl
