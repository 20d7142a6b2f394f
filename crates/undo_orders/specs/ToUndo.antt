-- Which rows must be undone so that a row can be.
use Rattle.std.specs.Prelude.{◌≡◌, ◌<◌, ◌↔◌, ℕ, Bool, false, List, [], ◌∷◌, All, Option, Some, None}
use Rattle.std.specs.List.{Contains, list_any}
use Rattle.tree_access.specs.declared.reading.Observation.{Observation}
use Rattle.history.specs.declared.row.Row.{Row}
use Rattle.history.specs.declared.row.UndoRefusal.TheVariants as refusals
use Rattle.history.specs.Rows.{row_at, meets}
use Rattle.history.specs.Blocks.{Survives, Blocks, IsRefusedBy}
use Rattle.undo_orders.specs.declared.orders.ToUndoError.{ToUndoError}
use Rattle.undo_orders.specs.declared.orders.ToUndoError.TheVariants.{NoSuchRow, NotACommand, AlreadyUndone, OutOfMemory}

-- Each number is less than the one before it.
abbrev pub Falls : List ℕ → Type 0
Falls [] = Unit {0}
Falls (m ∷ numbers) = All (λ k. k < m) numbers × Falls numbers

-- The rows that must be undone so that row n is: row n itself, and with each row those that block it.
pub data MustBeUndone {O : Type 0} (asks : O → Bool) (rows : List (Row O)) (n : ℕ) : ℕ → Type 0 where
  Itself : (m : ℕ) → m ≡ n → MustBeUndone asks rows n m
  Blocking : (k m : ℕ) → MustBeUndone asks rows n k → Blocks asks rows k m → MustBeUndone asks rows n m

module _ {O : Type 0} (asks : O → Bool) where
  abbrev pub IsSurvivor : List (Row O) → ℕ → Type 0
  IsSurvivor rows n = (row : Row O) × Survives asks rows n row

  -- Row n survives, and these are the rows that must be undone so that it is, from the last one to
  -- the first.
  pub record AreToUndo (rows : List (Row O)) (n : ℕ) (numbers : List ℕ) : Type 0 where
    pub survives : IsSurvivor rows n
    pub each : (m : ℕ) → Contains numbers m ↔ MustBeUndone asks rows n m
    pub falls : Falls numbers

  -- Why row n can't be undone, whatever is undone before; if memory ran out, it might be.
  abbrev pub TellsWhy : List (Row O) → ℕ → ToUndoError → Type 0
  TellsWhy rows n NoSuchRow = IsRefusedBy asks rows n (Some refusals.NoSuchRow)
  TellsWhy rows n NotACommand = IsRefusedBy asks rows n (Some refusals.NotACommand)
  TellsWhy rows n (AlreadyUndone by) = IsRefusedBy asks rows n (Some (refusals.AlreadyUndone by))
  TellsWhy rows n OutOfMemory = IsSurvivor rows n

  -- the same of an error that there may be: none if row n survives
  abbrev pub IsToldBy : List (Row O) → ℕ → Option ToUndoError → Type 0
  IsToldBy rows n None = IsSurvivor rows n
  IsToldBy rows n (Some error) = TellsWhy rows n error

-- whether a change of this row touches a key of the reading
abbrev pub row_meets : {O : Type 0} → Option (Row O) → List Observation → Bool
row_meets None reading = false
row_meets (Some row) reading = meets row.changes reading

-- whether a change of one of the rows of these numbers does
abbrev pub some_meets : {O : Type 0} → List (Row O) → List ℕ → List Observation → Bool
some_meets rows numbers reading = list_any (λ k. row_meets (row_at rows k) reading) numbers
