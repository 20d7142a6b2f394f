-- The texts of replies: what is written for each row, and the whole output.
use Rattle.std.specs.Prelude.{ℕ, Bool, true, false, ◌+◌, List, [], ◌∷◌, ◌++◌, length, Option, Some, None, codes}
use Rattle.std.specs.List.{flat_map}
use Rattle.std.specs.Fmt.{decimal}
use Rattle.link_tree.specs.declared.entry.Entry.{Entry}
use Rattle.link_tree.specs.declared.entry.Entry.TheVariants.{File, Link}
use Rattle.link_tree.specs.declared.change.Change.{Change}
use Rattle.link_tree.specs.Trees.{Entries, inverse_of, inventory_text}
use Rattle.footprint.specs.declared.answer.Answer.{Answer}
use Rattle.footprint.specs.declared.answer.Answer.TheVariants.{Done, State, Name, Names, Refused}
use Rattle.footprint.specs.declared.answer.StateWord.{StateWord}
use Rattle.footprint.specs.declared.answer.StateWord.TheVariants as states
use Rattle.unit_file.specs.Notices.{notice_lines}
use Rattle.tree_access.specs.declared.refusal.Refusal.{Refusal}
use Rattle.tree_access.specs.declared.refusal.Refusal.TheVariants.{NotFound, Masked, Dangling, BadType, NeedsInstance, NotASlot, Absent, Exists, IsAlias, TooMany, Clash}
use Rattle.tree_access.specs.declared.refusal.Subject.{Subject}
use Rattle.tree_access.specs.declared.refusal.Subject.TheVariants.{Unit, Path}
use Rattle.history.specs.declared.row.Request.{Request}
use Rattle.history.specs.declared.row.Request.TheVariants.{Do, Undo, Redo}
use Rattle.history.specs.declared.row.UndoRefusal.{UndoRefusal}
use Rattle.history.specs.declared.row.UndoRefusal.TheVariants.{NoSuchRow, NotACommand, AlreadyUndone, Blocked}
use Rattle.history.specs.declared.row.RedoRefusal.{RedoRefusal}
use Rattle.history.specs.declared.row.RedoRefusal.TheVariants as redos
use Rattle.history.specs.declared.row.Row.{Row}
use Rattle.history.specs.declared.row.RowReply.{RowReply}
use Rattle.history.specs.declared.row.RowReply.TheVariants.{Answered, Undid, UndoRefused, Redid, RedoRefused}
use Rattle.history.specs.Rows.{row_at}
use Rattle.unit_script.specs.declared.action.Action.{Action}
use Rattle.unit_script.specs.Machine.{replay}

-- a line for an entry, after a sign: the length of a file, or the target of a link
abbrev pub entry_text : List ℕ → List ℕ → Entry → List ℕ
entry_text sign path (File contents) = sign ++ path ++ codes " file " ++ decimal (length contents) ++ codes "\n"
entry_text sign path (Link target) = sign ++ path ++ codes " -> " ++ target ++ codes "\n"

-- a line for the entry at a path, if there is one
abbrev pub side_text : List ℕ → List ℕ → Option Entry → List ℕ
side_text sign path None = []
side_text sign path (Some entry) = entry_text sign path entry

-- the lines of the entry that was at a path, then of the one that is there now
abbrev pub sides_text : List ℕ → Option Entry → Option Entry → List ℕ
sides_text path before after = side_text (codes "  - ") path before ++ side_text (codes "  + ") path after

abbrev pub change_text : Change → List ℕ
change_text change = sides_text change.path change.before change.after

-- the name of a unit, or a path
abbrev pub subject_text : Subject → List ℕ
subject_text (Unit name) = name
subject_text (Path path) = path

abbrev pub refusal_text : Refusal → List ℕ
refusal_text (NotFound subject) = subject_text subject ++ codes " not found"
refusal_text (Masked subject) = subject_text subject ++ codes " is masked"
refusal_text (Dangling link) = link ++ codes " leads nowhere"
refusal_text (BadType subject) = subject_text subject ++ codes " has the wrong type"
refusal_text (NeedsInstance name) = name ++ codes " needs an instance"
refusal_text (NotASlot path) = path ++ codes " is not a slot"
refusal_text (Absent path) = path ++ codes " is absent"
refusal_text (Exists path) = path ++ codes " exists"
refusal_text (IsAlias unit real) = unit ++ codes " is an alias of " ++ real
refusal_text TooMany = codes "too many units"
refusal_text (Clash path) = path ++ codes " is wanted twice"

-- whether a unit is enabled: systemctl(1), is-enabled
abbrev pub state_text : StateWord → List ℕ
state_text states.NotFound = codes "not-found"
state_text states.Masked = codes "masked"
state_text states.MaskedRuntime = codes "masked-runtime"
state_text states.Alias = codes "alias"
state_text states.Enabled = codes "enabled"
state_text states.EnabledRuntime = codes "enabled-runtime"
state_text states.Linked = codes "linked"
state_text states.LinkedRuntime = codes "linked-runtime"
state_text states.Static = codes "static"
state_text states.Indirect = codes "indirect"
state_text states.Disabled = codes "disabled"

-- the states that systemctl counts as success
abbrev pub is_success : StateWord → Bool
is_success states.Alias = true
is_success states.Enabled = true
is_success states.EnabledRuntime = true
is_success states.Static = true
is_success states.Indirect = true
is_success states.NotFound = false
is_success states.Masked = false
is_success states.MaskedRuntime = false
is_success states.Linked = false
is_success states.LinkedRuntime = false
is_success states.Disabled = false

abbrev pub success_text : Bool → List ℕ
success_text true = codes " yes"
success_text false = codes " no"

abbrev pub answer_text : Answer → List ℕ
answer_text (Done notices) = codes "ok"
answer_text (State state) = codes "state " ++ state_text state ++ success_text (is_success state)
answer_text (Name name) = codes "name " ++ name
answer_text (Names names) = codes "names " ++ decimal (length names)
answer_text (Refused refusal) = codes "refused: " ++ refusal_text refusal

-- a line for a name
abbrev pub name_line : List ℕ → List ℕ
name_line name = codes "  " ++ name ++ codes "\n"

-- the lines of the names in the answer
abbrev pub names_lines : RowReply → List ℕ
names_lines (Answered (Done notices)) = []
names_lines (Answered (State state)) = []
names_lines (Answered (Name name)) = []
names_lines (Answered (Names names)) = flat_map name_line names
names_lines (Answered (Refused refusal)) = []
names_lines (Undid n) = []
names_lines (UndoRefused refusal) = []
names_lines (Redid n) = []
names_lines (RedoRefused refusal) = []

-- the lines of the words that were skipped
abbrev pub notices_text : RowReply → List ℕ
notices_text (Answered (Done notices)) = notice_lines notices
notices_text (Answered (State state)) = []
notices_text (Answered (Name name)) = []
notices_text (Answered (Names names)) = []
notices_text (Answered (Refused refusal)) = []
notices_text (Undid n) = []
notices_text (UndoRefused refusal) = []
notices_text (Redid n) = []
notices_text (RedoRefused refusal) = []

-- a number between two texts
abbrev pub numbered : List ℕ → ℕ → List ℕ → List ℕ
numbered before n after = before ++ decimal n ++ after

-- a text with the numbers of two rows
abbrev pub two_rows : ℕ → List ℕ → ℕ → List ℕ
two_rows n between by = numbered (codes "row ") n between ++ decimal by

abbrev pub undo_refusal_text : ℕ → UndoRefusal → List ℕ
undo_refusal_text n NoSuchRow = numbered (codes "no row ") n []
undo_refusal_text n NotACommand = numbered (codes "row ") n (codes " is no accepted command")
undo_refusal_text n (AlreadyUndone by) = two_rows n (codes " was undone by row ") by
undo_refusal_text n (Blocked by) = two_rows n (codes " is blocked by row ") by

abbrev pub redo_refusal_text : ℕ → RedoRefusal → List ℕ
redo_refusal_text n redos.NoSuchRow = numbered (codes "no row ") n []
redo_refusal_text n redos.NotACommand = numbered (codes "row ") n (codes " is no accepted command")
redo_refusal_text n redos.NotUndone = numbered (codes "row ") n (codes " is not undone")
redo_refusal_text n (redos.Hindered by) = two_rows n (codes " is hindered by row ") by

-- the row that an undo or a redo names; 0 for anything else
abbrev pub number_asked : Request Action → ℕ
number_asked (Do c) = 0
number_asked (Undo n) = n
number_asked (Redo n) = n

abbrev pub reply_text : ℕ → RowReply → List ℕ
reply_text n (Answered answer) = answer_text answer
reply_text n (Undid m) = numbered (codes "undid ") m []
reply_text n (UndoRefused refusal) = codes "refused: " ++ undo_refusal_text n refusal
reply_text n (Redid m) = numbered (codes "redid ") m []
reply_text n (RedoRefused refusal) = codes "refused: " ++ redo_refusal_text n refusal

abbrev pub changes_at : Option (Row Action) → List Change
changes_at None = []
changes_at (Some row) = row.changes

-- The changes that a row shows: an accepted undo shows the inverse of the changes of the row that
-- it names, and an accepted redo shows these changes as they are.
abbrev pub shown_changes : List (Row Action) → RowReply → List Change → List Change
shown_changes rows (Answered answer) changes = changes
shown_changes rows (Undid n) changes = inverse_of (changes_at (row_at rows n))
shown_changes rows (UndoRefused refusal) changes = changes
shown_changes rows (Redid n) changes = changes_at (row_at rows n)
shown_changes rows (RedoRefused refusal) changes = changes

-- the first line of a row
abbrev pub row_line : ℕ → Row Action → List ℕ
row_line number row = numbered [] number (codes " ") ++ row.operator ++ codes " " ++ reply_text (number_asked row.request) row.reply ++ codes "\n"

-- the lines of a row among all: its reply, the names in the answer, what it changed, and what it
-- skipped
abbrev pub row_text : List (Row Action) → ℕ → Row Action → List ℕ
row_text all number row =
    row_line number row ++ names_lines row.reply ++ flat_map change_text (shown_changes all row.reply row.changes) ++ notices_text row.reply

-- the lines of rows among all, from the row of this number on
abbrev pub rows_text : List (Row Action) → ℕ → List (Row Action) → List ℕ
rows_text all number [] = []
rows_text all number (row ∷ rows) = row_text all number row ++ rows_text all (number + 1) rows

-- the whole output: the rows, and the resulting tree
abbrev pub text_of : Entries → List (Row Action) → List ℕ
text_of first rows = rows_text rows 1 rows ++ codes "== tree\n" ++ inventory_text (replay first rows)
