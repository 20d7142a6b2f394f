-- The lines of the calls of a run on a root with a history.
use Rattle.std.specs.Prelude.{ℕ, Bool, ◌+◌, ◌==◌, ◌||◌, min, if◌then◌else◌, List, [], ◌∷◌, Option, Some, None, Result, Ok, Err, codes}
use Rattle.std.specs.Str.{bytes_eq}
use Rattle.kept_texts.specs.Texts.{begins_comment}
use Rattle.root_access.specs.declared.failure.Failure.{Failure}
use Rattle.root_access.specs.declared.failure.Failure.TheVariants as failures
use Rattle.root_words.specs.declared.asked.RowsOf.{RowsOf}

-- the name that others have in a history
abbrev pub outside : List ℕ
outside = codes "outside"

-- It is no operator's.
abbrev pub checked_operator : List ℕ → Result (Unit {0}) Failure
checked_operator operator = if bytes_eq operator outside then Err failures.OutsideAsOperator else Ok tt

-- whether a verb names a row
abbrev pub names_row : List ℕ → Bool
names_row verb = bytes_eq verb (codes "undo") || bytes_eq verb (codes "redo")

-- The row of the history that a row of this run is, after the rows before it. No row has the
-- number 0, and none is above 4,294,967,295.
abbrev pub row_in_history : (row before : ℕ) → ℕ
row_in_history row before = if row == 0 then 0 else min (row + min before 4294967295) 4294967295

-- why a call with these words after its operator isn't made: it names a row, and it isn't said
-- whose
abbrev pub row_fault : Option RowsOf → (words : List (List ℕ)) → Option Failure
row_fault (Some rows) words = None
row_fault None [] = None
row_fault None (verb ∷ words) = if names_row verb then Some failures.RowsUnsaid else None

-- why a line of a script with these words isn't run; a comment is no call
abbrev pub line_fault : Option RowsOf → (words : List (List ℕ)) → Option Failure
line_fault rows [] = None
line_fault rows (operator ∷ words) =
    if begins_comment operator then None
    else if bytes_eq operator outside then Some failures.OutsideAsOperator else row_fault rows words
