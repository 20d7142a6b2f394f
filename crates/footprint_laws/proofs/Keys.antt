-- Keys of readings, and keys that are cells.
use Rattle.std.proofs.Common.{◌≡◌, ℕ, true, List, [], ◌∷◌, ◌↔◌, map as list_map, Option, Some, None, Contains, refl, sym, ap, subst, ◌∙◌, inl, inr}
use Rattle.std.specs.Prelude.{is_some}
use Rattle.std.specs.Cmp.{eq_by_cmp_equiv}
use Rattle.std.specs.Cmp.Lexicographic.{nat_list_cmp_total}
use Rattle.std.specs.FinMap as map
use Rattle.std.specs.FinMap.{FinMap}
use Rattle.std.proofs.lemmas.Bool.{false≢true}
use Rattle.std.proofs.lemmas.Map.Views.{Contains-from_any, list_any-from_Contains}
use Rattle.link_tree.specs.Trees.{path_cmp, Entries}
use Rattle.link_tree.proofs.Shapes.{same_key}
use Rattle.install_section.proofs.Least.{is_first, is_later, first_or_later, none_of}
use Rattle.tree_access.specs.declared.key.Key.{Key}
use Rattle.tree_access.specs.declared.key.Key.TheVariants.{Cell}
use Rattle.footprint.specs.Inquiry.{Inquiry}
use Rattle.footprint.specs.Operations.{Effect}
use Rattle.tree_access.proofs.KeySets.{Contains-in_order, in_order-Contains}
use Rattle.tree_access.proofs.ReadingKeys.{keys_of_reading}
use Rattle.footprint_laws.specs.Sets.{LooksAt}

-- the keys of a reading are those by which it was made
pub looks : {O : Type 0} (meaning : O → Inquiry Effect) (c : O) (t : Entries) (key : Key) → LooksAt meaning c t key ↔ Contains ((meaning c).keys t) key
looks meaning c t key = let keys = (meaning c).keys t in (
  λ here. in_order-Contains keys key (subst (λ ks. Contains ks key) (keys_of_reading keys t) here),
  λ here. subst (λ ks. Contains ks key) (sym (keys_of_reading keys t)) (Contains-in_order keys key here),
)

-- a key that is one of these cells
pub cell_among : (cells : List (List ℕ)) (key : Key) → Contains (list_map Cell cells) key → (path : List ℕ) × (key ≡ Cell path) × Contains cells path
cell_among [] key here = absurd (none_of [] key refl here)
cell_among (cell ∷ cells) key here = elim (first_or_later (Cell cell) (list_map Cell cells) key here.0 here.1 here.2) [
  | inl same ↦ (cell, same, is_first cell cells cell refl)
  | inr later ↦ (let at = cell_among cells key later in (at.0, at.1, is_later cell cells at.0 at.2))
]

pub among_cells : (cells : List (List ℕ)) (path : List ℕ) → Contains cells path → Contains (list_map Cell cells) (Cell path)
among_cells [] path here = absurd (none_of [] path refl here)
among_cells (cell ∷ cells) path here = elim (first_or_later cell cells path here.0 here.1 here.2) [
  | inl same ↦ is_first (Cell cell) (list_map Cell cells) (Cell path) (ap (λ p. Cell p) same)
  | inr later ↦ is_later (Cell cell) (list_map Cell cells) (Cell path) (among_cells cells path later)
]

-- a path at which a map has something
pub keys_have : {X : Type 0} (m : FinMap path_cmp X) (path : List ℕ) (x : X) → map.get m path ≡ Some x → Contains (map.keys m) path
keys_have m path x at = Contains-from_any same_key path (map.keys m) (sym (map.contains_key-keys m path) ∙ ap is_some at)

pub have_key : {X : Type 0} (m : FinMap path_cmp X) (path : List ℕ) → Contains (map.keys m) path → (x : X) × (map.get m path ≡ Some x)
have_key {X} m path here = by_found (map.get m path) refl (map.contains_key-keys m path ∙ list_any-from_Contains (eq_by_cmp_equiv nat_list_cmp_total) path (map.keys m) here)
  where
    by_found : (found : Option X) → map.get m path ≡ found → is_some found ≡ true → (x : X) × (map.get m path ≡ Some x)
    by_found None at is = absurd (false≢true is)
    by_found (Some x) at is = (x, at)

-- nothing is among no keys
pub no_key : {P : Type 0} (key : Key) → Contains [] key → P
no_key key here = absurd (none_of [] key refl here)

-- one key
pub only_one : (one key : Key) → Contains (one ∷ []) key → key ≡ one
only_one one key here = elim (first_or_later one [] key here.0 here.1 here.2) [ inl same ↦ same | inr none ↦ no_key key none ]

pub only_cell : (path : List ℕ) (key : Key) → Contains (Cell path ∷ []) key → key ≡ Cell path
only_cell path key here = only_one (Cell path) key here
