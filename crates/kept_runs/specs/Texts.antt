-- What the text of a kept history says.
use Rattle.std.specs.Prelude.{◌≡◌, ℕ, Bool, true, List, map as list_map, Result, Ok, Err}
use Rattle.link_tree.specs.declared.change.Change.{Change}
use Rattle.link_tree.specs.Trees.{Entries}
use Rattle.history.specs.declared.row.Request.{Request}
use Rattle.history.specs.declared.row.Row.{Row}
use Rattle.history.specs.declared.row.RowReply.{RowReply}
use Rattle.unit_script.specs.declared.action.Action.{Action}
use Rattle.unit_script.specs.declared.call.Call.{Call}
use Rattle.unit_script.specs.declared.run_fault.InputFault.{InputFault}
use Rattle.unit_script.specs.Machine.{rows_of}
use Rattle.unit_script.specs.Runs.{input_of}

-- the first tree of an input, and the rows of its calls
abbrev pub with_rows : Result (Entries × List Call) InputFault → Result (Entries × List (Row Action)) InputFault
with_rows (Ok given) = Ok (given.0, rows_of given.0 given.1)
with_rows (Err fault) = Err fault

-- The text is an input of unitadm with this first tree, and these rows are those of its calls.
abbrev pub Says : List ℕ → Entries → List (Row Action) → Type 0
Says text first rows = with_rows (input_of text) ≡ Ok (first, rows)

-- The same of a text that is said to have a call for each row.
abbrev pub SaysIf : Bool → List ℕ → Entries → List (Row Action) → Type 0
SaysIf is_written text first rows = is_written ≡ true → Says text first rows

-- what a row shows: who called, the request, the reply and the changes
abbrev pub shown : Row Action → List ℕ × Request Action × RowReply × List Change
shown row = (row.operator, row.request, row.reply, row.changes)

abbrev pub all_shown : List (Row Action) → List (List ℕ × Request Action × RowReply × List Change)
all_shown rows = list_map shown rows

-- the operator and the request of a row, in the form that histories use
abbrev pub requested : Row Action → List ℕ × Request Action
requested row = (row.operator, row.request)
