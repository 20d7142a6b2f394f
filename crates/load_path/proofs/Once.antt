-- Each cell is listed once.
use Rattle.std.proofs.Common.{◌≡◌, ℕ, ◌+◌, ◌≤◌, true, false, List, [], ◌∷◌, ◌++◌, length, length-append, All, Contains, refl, ap, subst, inl, inr, arith, ◌⊎◌}
use Rattle.std.specs.List.{list_any, IsDistinct}
use Rattle.std.specs.Str.{bytes_eq}
use Rattle.std.specs.Cmp.Lexicographic.{nat_list_eq_equiv}
use Rattle.std.specs.FinMap as map
use Rattle.std.proofs.lemmas.Bool.{cases_Bool}
use Rattle.std.proofs.lemmas.List.Elements.{All-nil, All-cons, All-contains, All-weaker, Contains-append_left, Contains-append_right, Contains-push, Contains-push_cases}
use Rattle.std.proofs.lemmas.Map.Keys.{IsDistinct-push}
use Rattle.std.proofs.lemmas.Map.Views.{Contains-from_any}
use Rattle.link_tree.specs.Trees.{Entries}
use Rattle.link_tree.proofs.Changed.{same_bytes}
use Rattle.load_path.specs.Search.{SameAt, Search, with_cell, with_cells, each_once}
use Rattle.load_path.specs.Laws.{Agrees, CellsOnce}

there : (cells : List (List ℕ)) (cell : List ℕ) → list_any (bytes_eq cell) cells ≡ true → cells ≡ with_cell cells cell
unfolding with_cell
there cells cell is = rw is refl

new : (cells : List (List ℕ)) (cell : List ℕ) → list_any (bytes_eq cell) cells ≡ false → cells ++ cell ∷ [] ≡ with_cell cells cell
unfolding with_cell
new cells cell is = rw is refl

-- a property of both the unchanged cells and the cells with one more holds after `with_cell`
by_cell : (P : List (List ℕ) → Type 0) (cells : List (List ℕ)) (cell : List ℕ)
    → (list_any (bytes_eq cell) cells ≡ true → P cells) → (list_any (bytes_eq cell) cells ≡ false → P (cells ++ cell ∷ [])) → P (with_cell cells cell)
by_cell P cells cell same more = elim (cases_Bool (list_any (bytes_eq cell) cells)) [
  | inl is ↦ subst P (there cells cell is) (same is)
  | inr is ↦ subst P (new cells cell is) (more is)
]

kept-one : (cells : List (List ℕ)) (cell x : List ℕ) → Contains cells x → Contains (with_cell cells cell) x
kept-one cells cell x here = by_cell (λ cells. Contains cells x) cells cell (λ is. here) (λ is. Contains-append_left cells (cell ∷ []) x here)

own : (cells : List (List ℕ)) (cell : List ℕ) → Contains (with_cell cells cell) cell
own cells cell = by_cell (λ cells. Contains cells cell) cells cell (λ is. Contains-from_any same_bytes cell cells is) (λ is. Contains-push cells cell)

from-one : (cells : List (List ℕ)) (cell x : List ℕ) → Contains (with_cell cells cell) x → Contains cells x ⊎ (cell ≡ x)
from-one cells cell x = by_cell (λ more. Contains more x → Contains cells x ⊎ (cell ≡ x)) cells cell (λ is here. inl here) (λ is here. Contains-push_cases cells cell x here)

kept : (cells more : List (List ℕ)) (x : List ℕ) → Contains cells x → Contains (with_cells cells more) x
kept cells [] x here = here
kept cells (cell ∷ more) x here = kept (with_cell cells cell) more x (kept-one cells cell x here)

added : (cells more : List (List ℕ)) → All (Contains (with_cells cells more)) more
added cells [] = All-nil (Contains cells)
added cells (cell ∷ more) = All-cons (Contains (with_cells (with_cell cells cell) more)) cell more (kept (with_cell cells cell) more cell (own cells cell)) (added (with_cell cells cell) more)

only : (cells more : List (List ℕ)) (x : List ℕ) → Contains (with_cells cells more) x → Contains cells x ⊎ Contains more x
only cells [] x here = inl here
only cells (cell ∷ more) x here = elim (only (with_cell cells cell) more x here) [
  | inl front ↦ (elim (from-one cells cell x front) [
    | inl before ↦ inl before
    | inr is ↦ inr (subst (Contains (cell ∷ more)) is (Contains-append_left (cell ∷ []) more cell (Contains-push [] cell)))
  ])
  | inr back ↦ inr (Contains-append_right (cell ∷ []) more x back)
]

distinct : (cells more : List (List ℕ)) → IsDistinct bytes_eq cells → IsDistinct bytes_eq (with_cells cells more)
distinct cells [] once = once
distinct cells (cell ∷ more) once = distinct (with_cell cells cell) more
    (by_cell (IsDistinct bytes_eq) cells cell (λ is. once) (λ is. IsDistinct-push nat_list_eq_equiv cells cell once is))

short : (cells more : List (List ℕ)) → length (with_cells cells more) ≤ length cells + length more
short cells [] = omega arith
short cells (cell ∷ more) =
    let rest = short (with_cell cells cell) more in
    let one : length (with_cell cells cell) ≤ length cells + 1 = by_cell (λ all. length all ≤ length cells + 1) cells cell (λ is. omega arith) (λ is. omega (arith, length-append cells (cell ∷ []))) in
    omega (arith, rest, one)

pub once_short : (cells : List (List ℕ)) (most : ℕ) → length cells ≤ most → (length cells ≤ most) × (length (each_once cells) ≤ most)
once_short cells most few = (few, let once = short [] cells in omega (arith, once, few))

none_distinct : IsDistinct bytes_eq []
unfolding IsDistinct
none_distinct = tt

none_there : (x : List ℕ) → Contains [] x → ⊥
none_there x here = omega (arith, here.1)

pub cells_once : CellsOnce
cells_once = λ cells. (
  distinct [] cells none_distinct,
  λ path. (
    λ here. elim (only [] cells path here) [ inl before ↦ absurd (none_there path before) | inr there ↦ there ],
    λ here. All-contains (Contains (each_once cells)) cells path (added [] cells) here,
  ),
)

same_all : (cells : List (List ℕ)) (t u : Entries) → SameAt (each_once cells) t u → SameAt cells t u
same_all cells t u same =
    let P : List ℕ → Type 0 = λ cell. map.get t cell ≡ map.get u cell in
    All-weaker (Contains (each_once cells)) P (λ x here. All-contains P (each_once cells) x same here) cells (added [] cells)

pub agrees : {X : Type 0} (s : Search X) → Agrees s
agrees s t u same = let both = s.agreement t u (same_all (s.cells t) t u same) in (both.0, ap each_once both.1)
