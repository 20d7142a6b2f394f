-- The lines of a script one by one: which are refused and why, and which have a call.
use Rattle.std.specs.Prelude.{ℕ, ◌+◌, Bool, ◌==◌, nat_lt, if◌then◌else◌, List, [], ◌∷◌, ◌++◌, length, Option, Some, None, Result, Ok, Err, take, codes}
use Rattle.std.specs.List.{slice_split, slice_index_or}
use Rattle.unit_script.specs.declared.call.Call.{Call}
use Rattle.unit_script.specs.declared.reason.Reason.{Reason}
use Rattle.unit_script.specs.declared.reason.Reason.TheVariants as reasons
use Rattle.unit_script.specs.Script.{call_of_line, words_of}
use Rattle.root_runs.specs.declared.line_faults.BadLine.{BadLine}
use Rattle.root_runs.specs.BadWords.{bad_place, hint_of, hint_text}
use Rattle.root_runs.specs.Escapes.{shown}
use Prim.Native.Char.{code}

abbrev pub is_line_feed : ℕ → Bool
is_line_feed b = b == code "\n"

-- the lines of a script; what follows the last line feed is one too
unfoldable pub lines_of : List ℕ → List (List ℕ)
lines_of script = slice_split is_line_feed script

-- why a line is refused that was read so, if it is
abbrev pub fault_of : Result (Option Call) Reason → Option Reason
fault_of (Ok call) = None
fault_of (Err reason) = Some reason

-- why a line is refused, if it is
abbrev pub line_fault : List ℕ → Option Reason
line_fault line = if nat_lt 65536 (length line) then Some reasons.LineTooLong else fault_of (call_of_line line)

-- a line of this number, if it is refused
abbrev pub bad_line : ℕ → Option Reason → List BadLine
bad_line number None = []
bad_line number (Some reason) = record { number = number; reason = reason } ∷ []

-- the bad ones of lines, of which the first has this number
abbrev pub bad_lines_from : ℕ → List (List ℕ) → List BadLine
bad_lines_from number [] = []
bad_lines_from number (line ∷ lines) = bad_line number (line_fault line) ++ bad_lines_from (number + 1) lines

-- the bad lines of a script
abbrev pub bad_lines : List ℕ → List BadLine
bad_lines script = bad_lines_from 1 (lines_of script)

-- the number of a line that was read so, if it has a call
abbrev pub call_line : ℕ → Result (Option Call) Reason → List ℕ
call_line number (Ok None) = []
call_line number (Ok (Some call)) = number ∷ []
call_line number (Err reason) = []

-- the numbers of those lines that have a call, if the first has this number
abbrev pub call_lines_from : ℕ → List (List ℕ) → List ℕ
call_lines_from number [] = []
call_lines_from number (line ∷ lines) = call_line number (call_of_line line) ++ call_lines_from (number + 1) lines

-- the numbers of the lines of a script that have a call
abbrev pub call_lines : List ℕ → List ℕ
call_lines script = call_lines_from 1 (lines_of script)

-- a reason as it is shown
abbrev pub reason_text : Reason → List ℕ
reason_text reasons.TooManyLines = codes "too many lines"
reason_text reasons.LineTooLong = codes "line too long"
reason_text reasons.BadOperator = codes "bad operator"
reason_text reasons.UnknownVerb = codes "unknown verb"
reason_text reasons.WrongArguments = codes "wrong arguments"
reason_text reasons.BadName = codes "bad name"
reason_text reasons.BadPath = codes "bad path"
reason_text reasons.BadTarget = codes "bad target"
reason_text reasons.BadText = codes "bad text"
reason_text reasons.BadNumber = codes "bad number"

-- a text between back quotes, as it is shown
abbrev pub quoted : List ℕ → List ℕ
quoted text = codes "`" ++ shown text ++ codes "`"

-- the first word, or nothing
abbrev pub operator_in : List (List ℕ) → List ℕ
operator_in [] = []
operator_in (operator ∷ words) = operator

-- the word for which a line is refused, the line, and what would be right; or the line alone
abbrev pub place_text : Reason → List (List ℕ) → List ℕ → Option ℕ → List ℕ
place_text reason words line None = quoted line
place_text reason words line (Some place) =
    quoted (slice_index_or words place []) ++ codes " in " ++ quoted line
    ++ hint_text (hint_of reason (operator_in words) (slice_index_or words place [])) (operator_in words) (slice_index_or words place [])

-- why these words are refused, which are those of a line
abbrev pub fault_text : Reason → List (List ℕ) → List ℕ → List ℕ
fault_text reason words line = reason_text reason ++ codes ": " ++ place_text reason words line (bad_place reason words)

-- as much of a line as is shown
abbrev pub shown_part : List ℕ → List ℕ
shown_part line = if nat_lt 200 (length line) then take 200 line else line

-- why a line is refused, of which at most 200 bytes are shown
abbrev pub line_fault_text : Reason → List ℕ → List ℕ
line_fault_text reason line = fault_text reason (words_of line) (shown_part line)
