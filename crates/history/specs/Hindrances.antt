-- Which rows hinder a redo, as a relation between two rows, and what each refusal of a redo means.
use Rattle.std.specs.Prelude.{◌≡◌, ◌≢◌, ◌<◌, ◌≤◌, ◌⊎◌, ℕ, Bool, true, Option, Some, None, is_some, List, length}
use Rattle.history.specs.declared.row.Row.{Row}
use Rattle.history.specs.declared.row.RowReply.{RowReply}
use Rattle.history.specs.declared.row.RowReply.TheVariants.{Answered, Undid, UndoRefused, Redid, RedoRefused}
use Rattle.history.specs.declared.row.RedoRefusal.{RedoRefusal}
use Rattle.history.specs.declared.row.RedoRefusal.TheVariants.{NoSuchRow, NotACommand, NotUndone, Hindered}
use Rattle.history.specs.Rows.{row_at, accepted, undoer_before}
use Rattle.history.specs.Blocks.{LookedAt, Survives}

-- the refusal in the reply to a redo, if it was refused
abbrev pub redo_refusal_told : RowReply → Option RedoRefusal
redo_refusal_told (Answered answer) = None
redo_refusal_told (Undid n) = None
redo_refusal_told (UndoRefused refusal) = None
redo_refusal_told (Redid n) = None
redo_refusal_told (RedoRefused refusal) = Some refusal

module _ {O : Type 0} (asks : O → Bool) where
  -- The row of this number is this one, and it is an accepted command.
  abbrev pub IsCommand : List (Row O) → ℕ → Row O → Type 0
  IsCommand rows n row = (row_at rows n ≡ Some row) × (is_some (accepted asks row.request row.reply) ≡ true)

  -- Command k, the command of this row, survives now and did not just before row u was made, or did
  -- then and does not now: it has flipped.
  abbrev pub HasFlipped : List (Row O) → (u k : ℕ) → Row O → Type 0
  HasFlipped rows u k row = ((row.undone_by ≡ None) × (undoer_before rows u k ≢ None)) ⊎ ((row.undone_by ≢ None) × (undoer_before rows u k ≡ None))

  -- Row m is a later survivor that looked at what row n changed; or it is an earlier command that
  -- has flipped since row u, and changed what row n looked at.
  abbrev pub IsInTheWay : List (Row O) → (n u m : ℕ) → Row O → Row O → Type 0
  IsInTheWay rows n u m row other =
      (Survives asks rows m other × (n < m) × LookedAt row other) ⊎ (IsCommand rows m other × (m < n) × HasFlipped rows u m other × LookedAt other row)

  -- Row m hinders a redo of row n, a command that row u undid.
  abbrev pub Hinders : List (Row O) → (n m : ℕ) → Type 0
  Hinders rows n m = (row other : Row O) × (u : ℕ) × IsCommand rows n row × (row.undone_by ≡ Some u) × IsInTheWay rows n u m row other

  -- It is the first of the rows that hinder a redo of row n, or none if none does.
  abbrev pub IsFirstToHinder : List (Row O) → ℕ → Option ℕ → Type 0
  IsFirstToHinder rows n (Some m) = Hinders rows n m × ((k : ℕ) → Hinders rows n k → m ≤ k)
  IsFirstToHinder rows n None = (k : ℕ) → Hinders rows n k → ⊥

  -- Why a redo of row n is refused, or that it isn't. The cases exclude each other.
  abbrev pub IsRedoRefusedBy : List (Row O) → ℕ → Option RedoRefusal → Type 0
  IsRedoRefusedBy rows n (Some NoSuchRow) = row_at rows n ≡ None
  IsRedoRefusedBy rows n (Some NotACommand) = (row : Row O) × (row_at rows n ≡ Some row) × (accepted asks row.request row.reply ≡ None)
  IsRedoRefusedBy rows n (Some NotUndone) = (row : Row O) × Survives asks rows n row
  IsRedoRefusedBy rows n (Some (Hindered m)) = IsFirstToHinder rows n (Some m)
  IsRedoRefusedBy rows n None = (row : Row O) × (u : ℕ) × IsCommand rows n row × (row.undone_by ≡ Some u) × IsFirstToHinder rows n None

  -- The last row has this refusal.
  abbrev pub TellsRedoRefusal : (old new : List (Row O)) → ℕ → Type 0
  TellsRedoRefusal old new n = (row : Row O) → row_at new (length new) ≡ Some row → IsRedoRefusedBy old n (redo_refusal_told row.reply)
