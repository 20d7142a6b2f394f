-- What a script that was run prints: the rows of its calls, and what they change in all.
use Rattle.std.specs.Prelude.{ℕ, ◌+◌, Bool, true, false, if◌then◌else◌, List, [], ◌∷◌, ◌++◌, length, drop, codes}
use Rattle.std.specs.List.{flat_map, count_by}
use Rattle.std.specs.Fmt.{decimal}
use Rattle.unit_file.specs.Notices.{NoticeMap, notice_lines}
use Rattle.link_tree.specs.declared.change.Change.{Change}
use Rattle.footprint.specs.declared.answer.Answer.TheVariants as answers
use Rattle.history.specs.declared.row.Row.{Row}
use Rattle.history.specs.declared.row.RowReply.{RowReply}
use Rattle.history.specs.declared.row.RowReply.TheVariants as replies
use Rattle.unit_script.specs.declared.action.Action.{Action}
use Rattle.unit_script.specs.Texts.{numbered, change_text, row_text, rows_text}
use Rattle.root_runs.specs.Statuses.{is_refused_row}
use Rattle.root_runs.specs.Messages.{row_messages}

-- the line before the changes in all
abbrev pub changes_line : (dry_run : Bool) → List ℕ
changes_line false = codes "== changes\n"
changes_line true = codes "== changes (dry run)\n"

-- the rows after the first ones, which are those of earlier runs, and what the calls change in all
abbrev pub report_text : Bool → List (Row Action) → ℕ → List Change → List ℕ
report_text dry_run rows before changes =
    rows_text rows (before + 1) (drop before rows) ++ changes_line dry_run ++ flat_map change_text changes

-- the lines of an accepted command that isn't made
abbrev pub would_be_ok : ℕ → Row Action → NoticeMap → List ℕ
would_be_ok number row notices =
    numbered [] number (codes " ") ++ row.operator ++ codes " would be ok\n" ++ flat_map change_text row.changes ++ notice_lines notices

-- the lines of a row of which nothing is made: what an accepted command would be answered
abbrev pub unmade_reply : List (Row Action) → ℕ → Row Action → RowReply → List ℕ
unmade_reply all number row (replies.Answered (answers.Done notices)) = would_be_ok number row notices
unmade_reply all number row (replies.Answered (answers.State state)) = row_text all number row
unmade_reply all number row (replies.Answered (answers.Name name)) = row_text all number row
unmade_reply all number row (replies.Answered (answers.Names names)) = row_text all number row
unmade_reply all number row (replies.Answered (answers.Refused refusal)) = row_text all number row
unmade_reply all number row (replies.Undid n) = row_text all number row
unmade_reply all number row (replies.UndoRefused refusal) = row_text all number row
unmade_reply all number row (replies.Redid n) = row_text all number row
unmade_reply all number row (replies.RedoRefused refusal) = row_text all number row

abbrev pub unmade_row : List (Row Action) → ℕ → Row Action → List ℕ
unmade_row all number row = unmade_reply all number row row.reply

-- the same of rows among all, from the row of this number on
abbrev pub unmade_rows : List (Row Action) → ℕ → List (Row Action) → List ℕ
unmade_rows all number [] = []
unmade_rows all number (row ∷ rows) = unmade_row all number row ++ unmade_rows all (number + 1) rows

-- how many calls were refused, of how many
abbrev pub refused_count : List (Row Action) → List ℕ → List ℕ
refused_count rows after = decimal (count_by is_refused_row rows) ++ codes " of " ++ decimal (length rows) ++ codes " calls were refused" ++ after

-- the rows after the first ones, of which nothing is made, after a line that says so
abbrev pub unmade_text : List (Row Action) → ℕ → List ℕ
unmade_text rows before =
    (codes "nothing was changed: " ++ refused_count (drop before rows) (codes "\n")) ++ unmade_rows rows (before + 1) (drop before rows)

-- why a call was refused, with the number of its line
abbrev pub refused_at : ℕ → Row Action → List ℕ
refused_at number row = if is_refused_row row then numbered (codes "line ") number (codes ": ") ++ row_messages row else []

-- why calls were refused, each with the number of its line
abbrev pub refused_lines : List ℕ → List (Row Action) → List ℕ
refused_lines numbers [] = []
refused_lines [] (row ∷ rows) = []
refused_lines (number ∷ numbers) (row ∷ rows) = refused_at number row ++ refused_lines numbers rows

-- how many calls were refused, and each of them
abbrev pub refusals_text : List ℕ → List (Row Action) → List ℕ
refusals_text numbers rows = refused_count rows (codes ":\n") ++ refused_lines numbers rows
