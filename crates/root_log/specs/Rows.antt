-- Which rows of a history are shown, and whether a row can be undone.
use Rattle.std.specs.Prelude.{ℕ, zero, suc, Option, Some, None, List, slice_get}
use Rattle.history.specs.declared.row.UndoRefusal.{UndoRefusal}
use Rattle.history.specs.declared.row.UndoRefusal.TheVariants as refusals
use Rattle.undo_orders.specs.declared.orders.ToUndoError.{ToUndoError}
use Rattle.undo_orders.specs.declared.orders.ToUndoError.TheVariants as errors

-- the row of a number: the first row is 1
abbrev pub row_at : {R : Type 0} → List R → ℕ → Option R
row_at rows zero = None
row_at rows (suc n) = slice_get rows n

-- why a row can't be undone, whatever is undone before it, if that is known
abbrev pub refusal_of : ToUndoError → Option UndoRefusal
refusal_of errors.NoSuchRow = Some refusals.NoSuchRow
refusal_of errors.NotACommand = Some refusals.NotACommand
refusal_of (errors.AlreadyUndone row) = Some (refusals.AlreadyUndone row)
refusal_of errors.OutOfMemory = None
