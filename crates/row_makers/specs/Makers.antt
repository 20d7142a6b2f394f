-- Which row made what is at a path of the tree that the rows left.
use Rattle.std.specs.Prelude.{◌≡◌, ◌≤◌, ℕ, Bool, true, ◌&&◌, Option, Some, None, is_some, List}
use Rattle.std.specs.List.{list_any}
use Rattle.std.specs.Str.{bytes_eq}
use Rattle.link_tree.specs.declared.change.Change.{Change}
use Rattle.history.specs.declared.row.Row.{Row}
use Rattle.history.specs.Rows.{row_at, survivor}

-- whether one of the changes is at a path
abbrev pub changes_path : List Change → (path : List ℕ) → Bool
changes_path changes path = list_any (λ change. bytes_eq change.path path) changes

-- whether a row survives, and changed the path
abbrev pub makes : {O : Type 0} → (asks : O → Bool) → (path : List ℕ) → Row O → Bool
makes asks path row = is_some (survivor asks row) && changes_path row.changes path

module _ {O : Type 0} (asks : O → Bool) (rows : List (Row O)) (path : List ℕ) where
  -- Row n survives, and changed the path.
  abbrev pub MakesAt : ℕ → Type 0
  MakesAt n = (row : Row O) × (row_at rows n ≡ Some row) × (makes asks path row ≡ true)

  -- The row that made what is at the path: it survives and changed the path, and no later row did so.
  abbrev pub IsMaker : Option ℕ → Type 0
  IsMaker None = (n : ℕ) → MakesAt n → ⊥
  IsMaker (Some m) = MakesAt m × ((n : ℕ) → MakesAt n → n ≤ m)
