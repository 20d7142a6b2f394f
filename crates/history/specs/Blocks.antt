-- Which rows block an undo, as a relation between two rows, and what each refusal of an undo means.
use Rattle.std.specs.Prelude.{◌≡◌, ◌<◌, ◌≤◌, ℕ, Bool, true, Option, Some, None, is_some, List, length, Any}
use Rattle.tree_access.specs.Keys.{touches}
use Rattle.history.specs.declared.row.Row.{Row}
use Rattle.history.specs.declared.row.RowReply.{RowReply}
use Rattle.history.specs.declared.row.RowReply.TheVariants.{Answered, Undid, UndoRefused, Redid, RedoRefused}
use Rattle.history.specs.declared.row.UndoRefusal.{UndoRefusal}
use Rattle.history.specs.declared.row.UndoRefusal.TheVariants.{NoSuchRow, NotACommand, AlreadyUndone, Blocked}
use Rattle.history.specs.Rows.{row_at, accepted, survivor}

-- A change of the first row touches a key that the second one looked at.
abbrev pub LookedAt : {O : Type 0} → Row O → Row O → Type 0
LookedAt row later = Any (λ observation. Any (λ change. touches change observation.key ≡ true) row.changes) later.reading

-- the refusal in the reply to an undo, if it was refused
abbrev pub refusal_told : RowReply → Option UndoRefusal
refusal_told (Answered answer) = None
refusal_told (Undid n) = None
refusal_told (UndoRefused refusal) = Some refusal
refusal_told (Redid n) = None
refusal_told (RedoRefused refusal) = None

module _ {O : Type 0} (asks : O → Bool) where
  -- The row of this number is this one, and it survives.
  abbrev pub Survives : List (Row O) → ℕ → Row O → Type 0
  Survives rows n row = (row_at rows n ≡ Some row) × (is_some (survivor asks row) ≡ true)

  -- Row m blocks row n: it is a later one, both survive, and it looked at what row n changed.
  abbrev pub Blocks : List (Row O) → (n m : ℕ) → Type 0
  Blocks rows n m = (row later : Row O) × Survives rows n row × Survives rows m later × (n < m) × LookedAt row later

  -- It is the first of the rows that block row n, or none if none does.
  abbrev pub IsFirstToBlock : List (Row O) → ℕ → Option ℕ → Type 0
  IsFirstToBlock rows n (Some m) = Blocks rows n m × ((k : ℕ) → Blocks rows n k → m ≤ k)
  IsFirstToBlock rows n None = (k : ℕ) → Blocks rows n k → ⊥

  -- Why an undo of row n is refused, or that it isn't. The cases exclude each other.
  abbrev pub IsRefusedBy : List (Row O) → ℕ → Option UndoRefusal → Type 0
  IsRefusedBy rows n (Some NoSuchRow) = row_at rows n ≡ None
  IsRefusedBy rows n (Some NotACommand) = (row : Row O) × (row_at rows n ≡ Some row) × (accepted asks row.request row.reply ≡ None)
  IsRefusedBy rows n (Some (AlreadyUndone by)) =
      (row : Row O) × (row_at rows n ≡ Some row) × (is_some (accepted asks row.request row.reply) ≡ true) × (row.undone_by ≡ Some by)
  IsRefusedBy rows n (Some (Blocked m)) = IsFirstToBlock rows n (Some m)
  IsRefusedBy rows n None = (row : Row O) × Survives rows n row × IsFirstToBlock rows n None

  -- The last row has this refusal.
  abbrev pub TellsRefusal : (old new : List (Row O)) → ℕ → Type 0
  TellsRefusal old new n = (row : Row O) → row_at new (length new) ≡ Some row → IsRefusedBy old n (refusal_told row.reply)
