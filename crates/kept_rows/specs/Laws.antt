-- What holds of the rows of a history that is kept with a root: each law is the contract of a
-- public function.
use Rattle.std.specs.Prelude.{◌≡◌, ◌≢◌, ◌<◌, ◌≤◌, ◌+◌, ◌^◌, ℕ, true, if◌then◌else◌, List, [], ◌∷◌, ◌++◌, length, map as list_map, Some, None, Ok, All, Contains, codes}
use Rattle.std.specs.List.{list_all}
use Rattle.std.specs.Fmt.{decimal}
use Rattle.std.specs.FinMap as map
use Rattle.unit_paths.specs.Slots.{is_slot}
use Rattle.link_tree.specs.Shape.{IsTree}
use Rattle.link_tree.specs.Inventory.{◌>>=◌}
use Rattle.link_tree.specs.declared.change.Change.{Change}
use Rattle.link_tree.specs.Trees.{Entries, AreFrom, after_changes}
use Rattle.link_tree.specs.Differences.{DifferAtSlots}
use Rattle.tree_steps.specs.Steps.{slot_changes_between}
use Rattle.history.specs.declared.row.Row.{Row}
use Rattle.history.specs.declared.row.Request.TheVariants.{Undo, Redo}
use Rattle.history.specs.declared.row.UndoRefusal.TheVariants.{Blocked}
use Rattle.history.specs.declared.row.RedoRefusal.TheVariants.{Hindered}
use Rattle.history.specs.declared.row.RowReply.TheVariants.{Redid}
use Rattle.history.specs.Operators.{is_operator}
use Rattle.history.specs.Rows.{row_at, row_of_redo, redone, AreMarked, undo_refusal, redo_refusal}
use Rattle.later_rows.specs.Laws.{NoneLooked}
use Rattle.unit_script.specs.declared.action.Action.{Action}
use Rattle.unit_script.specs.declared.call.Call.{Call}
use Rattle.unit_script.specs.Actions.{asks}
use Rattle.script_words.specs.Words.{lines_text}
use Rattle.unit_script.specs.Laws.{is_line, calls_of}
use Rattle.unit_script.specs.Machine.{rows_of, replay}
use Rattle.unit_script.specs.Runs.{input_of}
use Rattle.unit_script.specs.Script.{call_of_words, call_of_line}
use Rattle.kept_rows.specs.Others.{calls_of_others, rows_with, rows_with_others, IsOfOthers, LeadTo, with_slots_of}
use Rattle.kept_rows.specs.Lines.{can_be_word, line_of, lines_of_others, CanBeWritten}
use Rattle.kept_rows.specs.Texts.{history_text, replay_of}

-- What others did leads to the tree of the history with the slots of the captured one,
abbrev pub OthersLead : Type 0
OthersLead = (first : Entries) (rows : List (Row Action)) (captured : Entries)
    → LeadTo first rows (calls_of_others (slot_changes_between (replay first rows) captured))
    (with_slots_of (replay first rows) captured)

-- which at each slot has what was captured, and elsewhere what the history has,
abbrev pub SlotsAreTaken : Type 0
SlotsAreTaken = (left captured : Entries) (path : List ℕ)
    → map.get (with_slots_of left captured) path
    ≡ (if is_slot path then map.get captured path else map.get left path)

-- so it is the captured tree if this differs at slots only.
abbrev pub CapturedIsReached : Type 0
CapturedIsReached = (left captured : Entries) → DifferAtSlots left captured → with_slots_of left captured ≡ captured

-- A row that a refusal names is one of others: it comes after the old rows.
abbrev pub IsNamed : (old now : List (Row Action)) → ℕ → Type 0
IsNamed old now m =
    (length old < m) × (theirs : Row Action) × (row_at now m ≡ Some theirs) × IsOfOthers theirs

-- Others changed what is at a slot that a row changed.
abbrev pub OthersChanged : Entries → List (Row Action) → (captured : Entries) → Row Action → Type 0
OthersChanged first rows captured row = (path : List ℕ)
    × Contains (list_map (λ change. change.path) row.changes) path × (is_slot path ≡ true)
    × (map.get (replay first rows) path ≢ map.get captured path)

-- If the undo of a row was free and others changed what the row changed, the undo is refused, and a
-- row of others is named.
abbrev pub OthersBlock : Type 0
OthersBlock = (first : Entries) (rows : List (Row Action)) (captured : Entries) (n : ℕ) (row : Row Action)
    → row_at rows n ≡ Some row → undo_refusal asks rows n ≡ None → OthersChanged first rows captured row
    → let now : List (Row Action) = rows_with_others first rows captured in
    (m : ℕ) × (undo_refusal asks now n ≡ Some (Blocked m)) × IsNamed rows now m

-- The same of the redo of a row that was undone.
abbrev pub OthersHinder : Type 0
OthersHinder = (first : Entries) (rows : List (Row Action)) (captured : Entries) (n : ℕ) (row : Row Action)
    → AreMarked rows → row_at rows n ≡ Some row → redo_refusal asks rows n ≡ None
    → OthersChanged first rows captured row
    → let now : List (Row Action) = rows_with_others first rows captured in
    (m : ℕ) × (redo_refusal asks now n ≡ Some (Hindered m)) × IsNamed rows now m

-- If others changed nothing at the paths that a row changed, its undo and its redo are as free as
-- they were.
abbrev pub OthersLeaveFree : Type 0
OthersLeaveFree = (first : Entries) (rows : List (Row Action)) (captured : Entries) (n : ℕ) (row : Row Action)
    → row_at rows n ≡ Some row
    → All (λ change. map.get (replay first rows) change.path ≡ map.get captured change.path) row.changes
    → let now : List (Row Action) = rows_with_others first rows captured in
    (undo_refusal asks rows n ≡ None → undo_refusal asks now n ≡ None)
    × (AreMarked rows → redo_refusal asks rows n ≡ None → redo_refusal asks now n ≡ None)

-- A line of words is read as the call of these words,
abbrev pub LinesAreRead : Type 0
LinesAreRead = (operator : List ℕ) (words : List (List ℕ)) → is_operator operator ≡ true
    → list_all can_be_word words ≡ true
    → call_of_line (line_of operator words) ≡ (call_of_words operator words >>= λ call. Ok (Some call))

-- so the lines `OPERATOR undo N`
abbrev pub UndoLinesAreRead : Type 0
UndoLinesAreRead = (operator : List ℕ) (n : ℕ) → is_operator operator ≡ true → n < 2 ^ 32
    → call_of_line (line_of operator (codes "undo" ∷ decimal n ∷ []))
    ≡ Ok (Some (record { operator = operator; request = Undo n }))

-- and `OPERATOR redo N` are read as the undo and the redo of row N.
abbrev pub RedoLinesAreRead : Type 0
RedoLinesAreRead = (operator : List ℕ) (n : ℕ) → is_operator operator ≡ true → n < 2 ^ 32
    → call_of_line (line_of operator (codes "redo" ∷ decimal n ∷ []))
    ≡ Ok (Some (record { operator = operator; request = Redo n }))

-- The lines of what others did are read as exactly these calls, whatever their numbers are.
abbrev pub LinesOfOthersAreRead : Type 0
LinesOfOthersAreRead = (changes : List Change) (number : ℕ) → All CanBeWritten changes
    → (list_all is_line (lines_of_others changes) ≡ true)
    × (calls_of number (lines_of_others changes) ≡ Ok (calls_of_others changes))

-- The text of a history is read as its first tree and the calls of its lines.
abbrev pub HistoriesAreInputs : Type 0
HistoriesAreInputs = (first : Entries) (lines : List (List ℕ)) (calls : List Call)
    → IsTree first → map.len first ≤ 65536 → list_all is_line lines ≡ true → length lines ≤ 2000000
    → calls_of 1 lines ≡ Ok calls → input_of (history_text first lines) ≡ Ok (first, calls)

-- A run that is appended adds its lines to the text. The rows of both are those that there were, as
-- the run left them, and one for each call of the run.
abbrev pub RunsAreAppended : Type 0
RunsAreAppended = (first : Entries) (lines more : List (List ℕ)) (calls added : List Call)
    → IsTree first → map.len first ≤ 65536 → list_all is_line (lines ++ more) ≡ true
    → length (lines ++ more) ≤ 2000000 → calls_of 1 lines ≡ Ok calls
    → calls_of (1 + length lines) more ≡ Ok added
    → (history_text first (lines ++ more) ≡ history_text first lines ++ lines_text more)
    × (input_of (history_text first (lines ++ more)) ≡ Ok (first, calls ++ added))
    × (rows_of first (calls ++ added) ≡ rows_with first (rows_of first calls) added)
    × (length (rows_of first (calls ++ added)) ≡ length calls + length added)

-- A redo that is appended and not refused adds its row: the row that it names isn't undone any
-- more, and the tree has the changes of that row again.
abbrev pub RedosAreAppended : Type 0
RedosAreAppended = (first : Entries) (calls : List Call) (operator : List ℕ) (n : ℕ) (row : Row Action)
    → let rows : List (Row Action) = rows_of first calls in
    let now : List (Row Action) = rows_of first (calls ++ record { operator = operator; request = Redo n } ∷ []) in
    row_at rows n ≡ Some row → redo_refusal asks rows n ≡ None
    → (now ≡ redone rows n ++ row_of_redo operator n (Redid n) ∷ [])
    × (replay first now ≡ after_changes row.changes (replay first rows))

-- With the lines of what others did, the text leaves the tree that was captured.
abbrev pub OthersAreWritten : Type 0
OthersAreWritten = (first : Entries) (lines : List (List ℕ)) (calls : List Call) (captured : Entries)
    → IsTree first → map.len first ≤ 65536 → list_all is_line lines ≡ true → calls_of 1 lines ≡ Ok calls
    → let left : Entries = replay_of (history_text first lines) in
    let more : List (List ℕ) = lines_of_others (slot_changes_between left captured) in
    All CanBeWritten (slot_changes_between left captured) → length (lines ++ more) ≤ 2000000
    → replay_of (history_text first (lines ++ more)) ≡ with_slots_of left captured

-- The first tree may have other entries at paths at which no row looked: the rows stay as they are,
-- and the tree that they leave has these entries.
abbrev pub FirstTreeMayChange : Type 0
FirstTreeMayChange = (first : Entries) (calls : List Call) (changes : List Change)
    → AreFrom first changes → NoneLooked changes (rows_of first calls)
    → (rows_of (after_changes changes first) calls ≡ rows_of first calls)
    × (replay (after_changes changes first) (rows_of first calls)
    ≡ after_changes changes (replay first (rows_of first calls)))
