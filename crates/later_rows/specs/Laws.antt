-- Later rows that block an undo or hinder a redo that was free before, and rows on another first tree.
use Rattle.std.specs.Prelude.{◌≡◌, ◌<◌, ◌⊎◌, ℕ, Bool, true, false, ◌&&◌, List, [], ◌∷◌, ◌++◌, length, Some, None, is_some}
use Rattle.link_tree.specs.declared.change.Change.{Change}
use Rattle.history.specs.declared.row.Row.{Row}
use Rattle.history.specs.declared.row.UndoRefusal.TheVariants.{Blocked}
use Rattle.history.specs.declared.row.RedoRefusal.TheVariants.{Hindered}
use Rattle.history.specs.Rows.{Call, row_at, survivor, meets, AreMarked, undo_refusal, redo_refusal, replay, run}
use Rattle.link_tree.specs.Trees.{Entries, AreFrom, after_changes}
use Rattle.footprint.specs.Inquiry.{Inquiry}
use Rattle.tree_access.specs.Keys.{Untouched}
use Rattle.footprint.specs.Operations.{Effect}
use Rattle.tree_access.specs.Readings.{keys_of}

module _ {O : Type 0} (asks : O → Bool) where
  -- One of these rows survives, and looked at what one of the changes touches.
  abbrev pub SomeMeet : List Change → List (Row O) → Type 0
  SomeMeet changes [] = ⊥
  SomeMeet changes (row ∷ rows) =
      ((is_some (survivor asks row) && meets changes row.reading) ≡ true) ⊎ SomeMeet changes rows

  -- None of these rows survives and looked at what one of the changes touches.
  abbrev pub NoneMeets : List Change → List (Row O) → Type 0
  NoneMeets changes [] = Unit {0}
  NoneMeets changes (row ∷ rows) =
      ((is_some (survivor asks row) && meets changes row.reading) ≡ false) × NoneMeets changes rows

  -- If the undo of a row was free, later rows that meet its changes block it, and one of these is
  -- named.
  abbrev pub LaterReadersBlock : Type 0
  LaterReadersBlock = (rows more : List (Row O)) (n : ℕ) (row : Row O)
      → row_at rows n ≡ Some row → undo_refusal asks rows n ≡ None → SomeMeet row.changes more
      → (m : ℕ) × (undo_refusal asks (rows ++ more) n ≡ Some (Blocked m)) × (length rows < m)

  -- If the redo of a row was free, later rows that meet its changes hinder it, and one of these is
  -- named.
  abbrev pub LaterReadersHinder : Type 0
  LaterReadersHinder = (rows more : List (Row O)) (n : ℕ) (row : Row O)
      → AreMarked rows → row_at rows n ≡ Some row → redo_refusal asks rows n ≡ None → SomeMeet row.changes more
      → (m : ℕ) × (redo_refusal asks (rows ++ more) n ≡ Some (Hindered m)) × (length rows < m)

  -- If no later row meets the changes of a row, its undo and its redo are as free as they were.
  abbrev pub OtherRowsLeaveFree : Type 0
  OtherRowsLeaveFree = (rows more : List (Row O)) (n : ℕ) (row : Row O)
      → row_at rows n ≡ Some row → NoneMeets row.changes more
      → (undo_refusal asks rows n ≡ None → undo_refusal asks (rows ++ more) n ≡ None)
      × (AreMarked rows → redo_refusal asks rows n ≡ None → redo_refusal asks (rows ++ more) n ≡ None)

-- No row looked at what one of these changes touches.
abbrev pub NoneLooked : {O : Type 0} → List Change → List (Row O) → Type 0
NoneLooked changes [] = Unit {0}
NoneLooked changes (row ∷ rows) = Untouched changes (keys_of row.reading) × NoneLooked changes rows

module _ {O : Type 0} (asks : O → Bool) (meaning : O → Inquiry Effect) where
  -- On another first tree, if no row looked at what differs, the same calls result in the same rows,
  -- and these leave the same tree but for what differs.
  abbrev pub RowsHoldOnAnotherTree : Type 0
  RowsHoldOnAnotherTree = (first : Entries) (calls : List (Call O)) (changes : List Change)
      → AreFrom first changes → NoneLooked changes (run asks meaning first [] calls)
      → (run asks meaning (after_changes changes first) [] calls ≡ run asks meaning first [] calls)
      × (replay asks meaning (after_changes changes first) (run asks meaning first [] calls)
      ≡ after_changes changes (replay asks meaning first (run asks meaning first [] calls)))
