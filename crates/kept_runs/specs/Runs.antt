-- Which runs are appended to the text of a history, and what that does.
use Rattle.std.specs.Prelude.{◌≡◌, ◌<◌, ◌+◌, ℕ, Bool, true, false, not, ◌&&◌, ◌||◌, List, take, drop, length, is_some}
use Rattle.std.specs.List.{list_any}
use Rattle.footprint.specs.Operations.{is_refused}
use Rattle.link_tree.specs.Trees.{Entries}
use Rattle.history.specs.declared.row.Row.{Row}
use Rattle.history.specs.declared.row.RowReply.{RowReply}
use Rattle.history.specs.declared.row.RowReply.TheVariants.{Answered, Undid, UndoRefused, Redid, RedoRefused}
use Rattle.history.specs.Rows.{accepted, toggled}
use Rattle.unit_script.specs.declared.action.Action.{Action}
use Rattle.unit_script.specs.declared.call.Call.{Call}
use Rattle.unit_script.specs.Actions.{asks}
use Rattle.unit_script.specs.Machine.{replay}
use Rattle.kept_rows.specs.Others.{rows_with}
use Rattle.kept_texts.specs.declared.text.KeptText.{KeptText}
use Rattle.kept_texts.specs.declared.words.RunWords.{RunWords}
use Rattle.kept_texts.specs.Readings.{count_lines}
use Rattle.kept_texts.specs.Texts.{run_text, sum_of_slots, Appends}
use Rattle.kept_runs.specs.declared.keeping.KeepIf.{KeepIf}
use Rattle.kept_runs.specs.declared.keeping.KeepIf.TheVariants as keeps
use Rattle.kept_runs.specs.declared.kept.Kept.{Kept}
use Rattle.kept_runs.specs.Texts.{Says}

-- whether it is an accepted command, undo or redo
abbrev pub is_accepted : Row Action → Bool
is_accepted row = is_some (accepted asks row.request row.reply) || is_some (toggled row.reply)

-- whether it is the reply of a call that was refused
abbrev pub is_refusal : RowReply → Bool
is_refusal (Answered answer) = is_refused answer
is_refusal (Undid n) = false
is_refusal (UndoRefused refusal) = true
is_refusal (Redid n) = false
is_refusal (RedoRefused refusal) = true

abbrev pub was_refused : Row Action → Bool
was_refused row = is_refusal row.reply

-- whether a run with these rows is kept
abbrev pub is_kept : KeepIf → List (Row Action) → Bool
is_kept keeps.Accepted rows = list_any is_accepted rows
is_kept keeps.NoneRefused rows = list_any is_accepted rows && not (list_any was_refused rows)

-- the rows that were added to these
abbrev pub added : (old new : List (Row Action)) → List (Row Action)
added old new = drop (length old) new

-- The rows are those before and those of the first of these calls: none, some or all.
abbrev pub MadeFirst : (old new : Kept) → List Call → Type 0
MadeFirst old new calls =
    (n : ℕ) × (new.history.rows ≡ rows_with old.history.first old.history.rows (take n calls))

-- whether the run that was made is appended: the text had a call for each row before it, and the
-- run is kept
abbrev pub is_appended : (old new : Kept) → KeepIf → Bool
is_appended old new keep_if = old.is_written && is_kept keep_if (added old.history.rows new.history.rows)

-- A run with these words and lines was appended, which leaves this tree.
abbrev pub IsAppended : (old new : KeptText) → RunWords → (lines : List ℕ) → Entries → Type 0
IsAppended old new words lines tree =
    Appends old new words (sum_of_slots tree) (run_text words lines (sum_of_slots tree))

-- What a run with these words and lines leaves. If it is appended, its lines are the last of the
-- text, and if this text is an input with all rows, that is known. Otherwise the text is as it was.
abbrev pub IsLeft : (old new : Kept) → KeepIf → RunWords → (lines : List ℕ) → Type 0
IsLeft old new keep_if words lines =
    (is_appended old new keep_if ≡ false → new.text ≡ old.text)
    × (is_appended old new keep_if ≡ true → IsAppended old.text new.text words lines (replay new.history.first new.history.rows))
    × (is_appended old new keep_if ≡ true → Says new.text.bytes.items new.history.first new.history.rows → new.is_written ≡ true)

-- With this run, the text would have over 2,000,000 lines.
abbrev pub IsTooLong : KeptText → RunWords → (lines : List ℕ) → Entries → Type 0
IsTooLong text words lines tree =
    2000000 < text.parts.lines + (count_lines (run_text words lines (sum_of_slots tree)) + 1)
