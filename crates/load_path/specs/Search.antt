-- What a search finds in a tree by looking at cells, the paths at which an entry may be.
use Rattle.std.specs.Prelude.{◌≡◌, ℕ, if◌then◌else◌, List, [], ◌∷◌, ◌++◌, All, Option}
use Rattle.std.specs.List.{list_any}
use Rattle.std.specs.Str.{bytes_eq}
use Rattle.std.specs.FinMap as map
use Rattle.link_tree.specs.Trees.{Entries}
use Rattle.link_tree.specs.declared.entry.Entry.{Entry}
use Rattle.link_tree.proofs.Agreeing.{nothing_agrees, one_agrees, given_agrees, both_agree}

-- Both trees have the same entry, or none, at this cell.
abbrev pub SameThere : List ℕ → Entries → Entries → Type 0
SameThere cell t u = map.get t cell ≡ map.get u cell

abbrev pub SameAt : List (List ℕ) → Entries → Entries → Type 0
SameAt cells t u = All (λ cell. SameThere cell t u) cells

-- The result of a search in a tree, and the cells that it looks at, in order. In a tree that is the
-- same at these cells, it has the same result and looks at the same cells. A cell that is looked at
-- twice is listed twice.
pub record Search (X : Type 0) : Type 0 where
  pub conclusion : Entries → X
  pub cells : Entries → List (List ℕ)
  pub agreement : (t u : Entries) → SameAt (cells t) t u → (conclusion t ≡ conclusion u) × (cells t ≡ cells u)

-- nothing is looked at
abbrev pub over : {X : Type 0} → X → Search X
over x = record { conclusion = λ t. x; cells = λ t. []; agreement = nothing_agrees SameThere x }

-- what is in the cell
abbrev pub look : List ℕ → Search (Option Entry)
look cell = record {
  conclusion = λ t. map.get t cell;
  cells = λ t. cell ∷ [];
  agreement = one_agrees SameThere (λ t. map.get t cell) cell (λ t u same. same);
}

-- a function of the result
abbrev pub giving : {X Y : Type 0} → Search X → (X → Y) → Search Y
giving s f = record {
  conclusion = λ t. f (s.conclusion t);
  cells = s.cells;
  agreement = given_agrees SameThere f s.conclusion s.cells s.agreement;
}

-- one search after another, which may depend on the first one's result
infixl 10 ◌>>=◌
abbrev pub ◌>>=◌ : {X Y : Type 0} → Search X → (X → Search Y) → Search Y
s >>= f = record {
  conclusion = λ t. (f (s.conclusion t)).conclusion t;
  cells = λ t. s.cells t ++ (f (s.conclusion t)).cells t;
  agreement = both_agree SameThere s.conclusion s.cells (λ x. (f x).conclusion) (λ x. (f x).cells) s.agreement (λ x. (f x).agreement);
}

-- The search results in x in the tree, and its cells have been added to those before.
abbrev pub Finds : {X : Type 0} → Entries → Search X → (before after : List (List ℕ)) → X → Type 0
Finds t s before after x = (x ≡ s.conclusion t) × (after ≡ before ++ s.cells t)

-- one more cell, unless it is there
unfoldable pub with_cell : List (List ℕ) → List ℕ → List (List ℕ)
with_cell cells cell = if list_any (bytes_eq cell) cells then cells else cells ++ cell ∷ []

-- adds all of these cells, one after another
abbrev pub with_cells : List (List ℕ) → List (List ℕ) → List (List ℕ)
with_cells cells [] = cells
with_cells cells (cell ∷ more) = with_cells (with_cell cells cell) more

-- each of the cells once, at its first position
abbrev pub each_once : List (List ℕ) → List (List ℕ)
each_once cells = with_cells [] cells
