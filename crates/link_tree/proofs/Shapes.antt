-- Trees keep their shape.
use Rattle.std.proofs.Common.{◌≡◌, ℕ, Bool, true, false, cond, ◌||◌, List, [], ◌∷◌, Option, Some, None, refl, sym, ◌∙◌, ap, subst, inl, inr, ◌⊎◌}
use Rattle.std.specs.List.{list_any}
use Rattle.std.specs.Prelude.{is_some}
use Rattle.std.specs.FinMap as map
use Rattle.std.specs.FinMap.{get-empty, get-insert, get-remove, contains_key-keys}
use Rattle.std.specs.Ordering.{eq_by_cmp, is_eq}
use Rattle.std.specs.declared.cmp.Ordering.{Ordering}
use Rattle.std.specs.declared.cmp.Ordering.TheVariants.{Less, Equal, Greater}
use Rattle.std.specs.Cmp.Lexicographic.{nat_list_cmp_total}
use Rattle.std.proofs.lemmas.Map.Lookups.{exact_bytes}
use Rattle.std.proofs.lemmas.Bool.{false≢true, or_cases}
use Rattle.unit_paths.proofs.Shapes.{close_sym, self_close}
use Rattle.link_tree.specs.Trees.{Entries, path_cmp}
use Rattle.unit_paths.specs.Paths.{is_path}
use Rattle.link_tree.specs.Values.{is_entry}
use Rattle.unit_paths.specs.Shape.{is_bad_shape, is_close}
use Rattle.link_tree.specs.Shape.{IsTree, fits_at, is_crowded}
use Rattle.link_tree.specs.declared.entry.Entry.{Entry}

none_some : {P : Type 0} (e : Entry) → None ≡ Some e → P
none_some e h = cc

pub empty_tree : IsTree map.empty
empty_tree = record {
  fits = λ path entry at. none_some entry (sym (get-empty {X = Entry} path_cmp path) ∙ at);
  apart = λ path other at. absurd (false≢true (sym (ap is_some (get-empty {X = Entry} path_cmp path)) ∙ at));
}

is_equal : (r : Ordering) → is_eq r ≡ true → r ≡ Equal
is_equal Less h = absurd (false≢true h)
is_equal Equal h = refl
is_equal Greater h = absurd (false≢true h)

pub same_key : (q k : List ℕ) → eq_by_cmp path_cmp q k ≡ true → q ≡ k
same_key q k h = exact_bytes q k (is_equal (path_cmp q k) h)

at-cond : (b : Bool) (e f : Entry) (o : Option Entry) → cond b (Some e) o ≡ Some f → ((b ≡ true) × (e ≡ f)) ⊎ (o ≡ Some f)
at-cond true e f o h = inl (refl, cc)
at-cond false e f o h = inr h

some-cond : (b : Bool) (e : Entry) (o : Option Entry) → is_some (cond b (Some e) o) ≡ true → (b ≡ true) ⊎ (is_some o ≡ true)
some-cond true e o h = inl refl
some-cond false e o h = inr h

left-cond : (b : Bool) (f : Entry) (o : Option Entry) → cond b None o ≡ Some f → o ≡ Some f
left-cond true f o h = cc
left-cond false f o h = h

left-some : (b : Bool) (o : Option Entry) → is_some (cond b None o) ≡ true → is_some o ≡ true
left-some true o h = absurd (false≢true h)
left-some false o h = h

-- a tree without some of its entries is still a tree
pub removed_tree : (m : Entries) (path : List ℕ) → IsTree m → IsTree (map.remove m path)
removed_tree m path tree = record {
  fits = λ q e at. tree.fits q e (left-cond _ e _ (sym (get-remove nat_list_cmp_total m path q) ∙ at));
  apart = λ p q at there. tree.apart p q (left-some _ _ (sym (ap is_some (get-remove nat_list_cmp_total m path p)) ∙ at)) (left-some _ _ (sym (ap is_some (get-remove nat_list_cmp_total m path q)) ∙ there));
}

neither : (x y : Bool) → (x || y) ≡ false → (x ≡ false) × (y ≡ false)
neither true y h = absurd (false≢true (sym h))
neither false y h = (refl, h)

none_of : (f : List ℕ → Bool) (ks : List (List ℕ)) (q : List ℕ) → list_any f ks ≡ false → list_any (eq_by_cmp path_cmp q) ks ≡ true → f q ≡ false
none_of f [] q none some = absurd (false≢true some)
none_of f (k ∷ ks) q none some =
    let parts = neither (f k) (list_any f ks) none in
    elim (or_cases (eq_by_cmp path_cmp q k) (list_any (eq_by_cmp path_cmp q) ks) some) [
      | inl here ↦ subst (λ x. f x ≡ false) (sym (same_key q k here)) parts.0
      | inr there ↦ none_of f ks q parts.1 there
    ]

-- a path that isn't crowded is neither above nor beneath any entry
apart_from : (m : Entries) (path q : List ℕ) → is_crowded m path ≡ false → is_some (map.get m q) ≡ true → is_close path q ≡ false
unfolding is_crowded
apart_from m path q none some = none_of (is_close path) (map.keys m) q none (sym (contains_key-keys m q) ∙ some)

-- one more entry that is allowed at its path
pub grown_tree : (m : Entries) (path : List ℕ) (entry : Entry) → IsTree m → fits_at path entry ≡ true → is_crowded m path ≡ false → IsTree (map.insert m path entry)
grown_tree m path entry tree fits free = record {
  fits = λ q e at. elim (at-cond (eq_by_cmp path_cmp q path) entry e (map.get m q) (sym (get-insert nat_list_cmp_total m path entry q) ∙ at)) [
    | inl new ↦ (let key = same_key q path new.0 in subst (λ x. fits_at q x ≡ true) new.1 (subst (λ k. fits_at k entry ≡ true) (sym key) fits))
    | inr old ↦ tree.fits q e old
  ];
  apart = λ p q at there.
      let a = some-cond (eq_by_cmp path_cmp p path) entry (map.get m p) (sym (ap is_some (get-insert nat_list_cmp_total m path entry p)) ∙ at) in
      let b = some-cond (eq_by_cmp path_cmp q path) entry (map.get m q) (sym (ap is_some (get-insert nat_list_cmp_total m path entry q)) ∙ there) in
      elim a [
        | inl new ↦ (let key = same_key p path new in elim b [
          | inl twice ↦ (let other = same_key q path twice in subst (λ k. is_close p k ≡ false) (key ∙ sym other) (self_close p))
          | inr old ↦ subst (λ k. is_close k q ≡ false) (sym key) (apart_from m path q free old)
        ])
        | inr was ↦ elim b [
          | inl new ↦ (let key = same_key q path new in subst (λ k. is_close p k ≡ false) (sym key) (close_sym p path ∙ apart_from m path p free was))
          | inr old ↦ tree.apart p q was old
        ]
      ];
}

pub crowded_is : (m : Entries) (path : List ℕ) → is_crowded m path ≡ list_any (is_close path) (map.keys m)
unfolding is_crowded
crowded_is m path = refl

pub fits_from : (path : List ℕ) (entry : Entry) → is_path path ≡ true → is_entry entry ≡ true → is_bad_shape path ≡ false → fits_at path entry ≡ true
unfolding fits_at
fits_from path entry p e shape = rw (p, e, shape) refl
