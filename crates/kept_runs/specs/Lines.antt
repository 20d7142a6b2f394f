-- The calls of lines. A line ends at LF; the last one may lack it.
use Rattle.std.specs.Prelude.{◌≡◌, ℕ, ◌+◌, Bool, true, false, ◌==◌, nat_lt, if◌then◌else◌, List, [], ◌∷◌, length, Option, Some, None, Result, Ok, Err}
use Rattle.std.specs.List.{filter, slice_split}
use Rattle.link_tree.specs.Inventory.{◌>>=◌}
use Rattle.unit_script.specs.declared.call.Call.{Call}
use Rattle.unit_script.specs.declared.reason.Reason.{Reason}
use Rattle.unit_script.specs.declared.reason.Reason.TheVariants.{LineTooLong}
use Rattle.script_words.specs.Words.{lines_text}
use Rattle.unit_script.specs.Script.{call_of_line, with_call}
use Rattle.kept_runs.specs.declared.errors.LinesError.{LinesError}
use Rattle.kept_runs.specs.declared.errors.LinesError.TheVariants as lines
use Prim.Native.Char.{code}

abbrev pub is_line_end : ℕ → Bool
is_line_end b = b == code "\n"

-- the call of a line, if it has one
abbrev pub call_of : List ℕ → Result (Option Call) Reason
call_of line = if nat_lt 65536 (length line) then Err LineTooLong else call_of_line line

abbrev pub is_call : Result (Option Call) Reason → Bool
is_call (Ok (Some call)) = true
is_call (Ok None) = false
is_call (Err reason) = false

abbrev pub has_call : List ℕ → Bool
has_call line = is_call (call_of line)

-- the lines that have a call, each with its end
abbrev pub call_lines : List ℕ → List ℕ
call_lines text = lines_text (filter has_call (slice_split is_line_end text))

abbrev pub at_line : {A : Type 0} → ℕ → Result A Reason → Result A (ℕ × Reason)
at_line number (Ok x) = Ok x
at_line number (Err reason) = Err (number, reason)

-- these calls, and those of the lines from this number on, or the first line that is refused
unfoldable pub calls_onto : List Call → ℕ → List (List ℕ) → Result (List Call) (ℕ × Reason)
calls_onto calls number [] = Ok calls
calls_onto calls number (line ∷ lines) =
    at_line number (call_of line) >>= λ call. calls_onto (with_call calls call) (number + 1) lines

-- the calls of lines
abbrev pub calls_of_lines : List ℕ → Result (List Call) (ℕ × Reason)
calls_of_lines text = calls_onto [] 1 (slice_split is_line_end text)

-- The error is the first line's that is refused, unless memory ran out.
abbrev pub IsLineError : {A : Type 0} → LinesError → Result A (ℕ × Reason) → Type 0
IsLineError (lines.Bad number reason) read = read ≡ Err (number, reason)
IsLineError lines.TooManyLines read = ⊥
IsLineError lines.Full read = ⊥
IsLineError lines.OutOfMemory read = Unit {0}
