-- What holds for the rows that must be undone; each law is the contract of a public function.
use Rattle.std.specs.Prelude.{◌≡◌, ◌↔◌, ℕ, Bool, true, List, [], ◌∷◌, None, is_some}
use Rattle.std.specs.List.{Contains}
use Rattle.history.specs.declared.row.Row.{Row}
use Rattle.history.specs.Rows.{undo_refusal, rows_undone}
use Rattle.history.specs.Blocks.{Survives}
use Rattle.history.specs.Hindrances.{IsCommand}
use Rattle.undo_orders.specs.ToUndo.{AreToUndo}

-- an operator, and the row whose undo it calls
abbrev pub Undoing : Type 0
Undoing = List ℕ × ℕ

abbrev pub numbers_of : List Undoing → List ℕ
numbers_of [] = []
numbers_of (undoing ∷ undoings) = undoing.1 ∷ numbers_of undoings

module _ {O : Type 0} (asks : O → Bool) where
  -- the rows after the undo of a row was called, whether or not it was refused
  abbrev pub after_undo : List (Row O) → Undoing → List (Row O)
  after_undo rows undoing = rows_undone undoing.0 rows undoing.1 (undo_refusal asks rows undoing.1)

  -- the same after several, one after another
  abbrev pub after_undos : List (Row O) → List Undoing → List (Row O)
  after_undos rows [] = rows
  after_undos rows (undoing ∷ undoings) = after_undos (after_undo rows undoing) undoings

  -- None of these undos is refused, one after another.
  abbrev pub AreAccepted : List (Row O) → List Undoing → Type 0
  AreAccepted rows [] = Unit {0}
  AreAccepted rows (undoing ∷ undoings) = (undo_refusal asks rows undoing.1 ≡ None) × AreAccepted (after_undo rows undoing) undoings

  -- Row n is an accepted command, and it is undone.
  abbrev pub IsUndone : List (Row O) → ℕ → Type 0
  IsUndone rows n = (row : Row O) × IsCommand asks rows n row × (is_some row.undone_by ≡ true)

  -- If they are undone in this order, whoever does it, no undo is refused. Then each of them is
  -- undone, and all other rows survive as before.
  pub record UndoTheseAlone (rows : List (Row O)) (numbers : List ℕ) (undoings : List Undoing) : Type 0 where
    pub accepted : AreAccepted rows undoings
    pub undone : (m : ℕ) → Contains numbers m → IsUndone (after_undos rows undoings) m
    pub others : (m : ℕ) (row : Row O) → Survives asks (after_undos rows undoings) m row ↔ (Survives asks rows m row × (Contains numbers m → ⊥))

  abbrev pub OrderIsAccepted : Type 0
  OrderIsAccepted = (rows : List (Row O)) (n : ℕ) (numbers : List ℕ) (undoings : List Undoing)
      → AreToUndo asks rows n numbers → numbers_of undoings ≡ numbers → UndoTheseAlone rows numbers undoings

  -- Whatever undos are called, accepted or not: if row n is undone after them, each of these rows is.
  abbrev pub EachIsNecessary : Type 0
  EachIsNecessary = (rows : List (Row O)) (n : ℕ) (numbers : List ℕ) (undoings : List Undoing)
      → AreToUndo asks rows n numbers → IsUndone (after_undos rows undoings) n → (m : ℕ) → Contains numbers m → IsUndone (after_undos rows undoings) m
