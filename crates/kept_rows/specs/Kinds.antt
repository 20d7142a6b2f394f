-- What the lines after `== calls` are in a history that is kept with a root. To unitadm, a line
-- that begins with `#` is a comment.
use Rattle.std.specs.Prelude.{◌≡◌, ◌≢◌, ℕ, Bool, not, nat_eq, if◌then◌else◌, List, None, Ok, codes}
use Rattle.std.specs.List.{filter, starts_with}
use Rattle.unit_script.specs.declared.call.Call.{Call}
use Rattle.unit_script.specs.Laws.{calls_of}
use Rattle.unit_script.specs.Script.{is_comment, call_of_line}
use Rattle.kept_rows.specs.declared.kinds.LineKind.{LineKind}
use Rattle.kept_rows.specs.declared.kinds.LineKind.TheVariants as kinds

-- the header of a run, its end, or another comment
abbrev pub comment_kind : List ℕ → LineKind
comment_kind line =
    if starts_with nat_eq line (codes "# run ") then kinds.Run
    else if starts_with nat_eq line (codes "# end ") then kinds.End
    else kinds.Comment

abbrev pub line_kind : List ℕ → LineKind
line_kind line = if is_comment line then comment_kind line else kinds.Call

abbrev pub is_call_line : List ℕ → Bool
is_call_line line = not (is_comment line)

-- A line of any other kind is no call.
abbrev pub CommentsAreSkipped : Type 0
CommentsAreSkipped = (line : List ℕ) → line_kind line ≢ kinds.Call → call_of_line line ≡ Ok None

-- The lines of calls alone have the calls of all lines.
abbrev pub CallLinesAreEnough : Type 0
CallLinesAreEnough = (lines : List (List ℕ)) (number other : ℕ) (calls : List Call)
    → calls_of number lines ≡ Ok calls → calls_of other (filter is_call_line lines) ≡ Ok calls
