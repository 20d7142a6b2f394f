-- The state machine: its whole state is the first tree and the rows, one for each call.
use Rattle.std.specs.Prelude.{◌≡◌, ◌+◌, ◌≤◌, ◌<◌, ◌↔◌, ℕ, zero, suc, Bool, true, false, ◌&&◌, ◌||◌, if◌then◌else◌, Option, Some, None, is_some, List, [], ◌∷◌, ◌++◌, length, slice_get, take, drop, All, ◌==◌, ◌-◌}
use Rattle.std.specs.List.{list_any}
use Rattle.link_tree.specs.declared.change.Change.{Change}
use Rattle.unit_paths.specs.Slots.{is_slot}
use Rattle.link_tree.specs.Trees.{Entries, after_changes}
use Rattle.footprint.specs.declared.answer.Answer.{Answer}
use Rattle.footprint.specs.declared.outcome.Outcome.{Outcome}
use Rattle.tree_access.specs.declared.reading.Observation.{Observation}
use Rattle.footprint.specs.Inquiry.{Inquiry}
use Rattle.tree_access.specs.Keys.{touches}
use Rattle.footprint.specs.Operations.{Effect, is_refused, outcome_of}
use Rattle.history.specs.declared.row.UndoRefusal.{UndoRefusal}
use Rattle.history.specs.declared.row.UndoRefusal.TheVariants.{NoSuchRow, NotACommand, AlreadyUndone, Blocked}
use Rattle.history.specs.declared.row.RedoRefusal.{RedoRefusal}
use Rattle.history.specs.declared.row.RedoRefusal.TheVariants as redos
use Rattle.history.specs.declared.row.Row.{Row}
use Rattle.history.specs.declared.row.Request.{Request}
use Rattle.history.specs.declared.row.Request.TheVariants.{Do, Undo, Redo}
use Rattle.history.specs.declared.row.RowReply.{RowReply}
use Rattle.history.specs.declared.row.RowReply.TheVariants.{Answered, Undid, UndoRefused, Redid, RedoRefused}

-- an operator, and its request
abbrev pub Call : Type 0 → Type 0
Call O = List ℕ × Request O

-- the calls of rows
abbrev pub calls_of : {O : Type 0} → List (Row O) → List (Call O)
calls_of [] = []
calls_of (row ∷ rows) = (row.operator, row.request) ∷ calls_of rows

-- row n, from 1 on
abbrev pub row_at : {O : Type 0} → List (Row O) → ℕ → Option (Row O)
row_at rows zero = None
row_at rows (suc k) = slice_get rows k

-- an accepted command, unless this row undid it
abbrev pub unless_undone : {O : Type 0} → Option ℕ → Option O → Option O
unless_undone None command = command
unless_undone (Some by) command = None

-- the commands with one more at the front, if there is one
abbrev pub with_command : {O : Type 0} → Option O → List O → List O
with_command None commands = commands
with_command (Some c) commands = c ∷ commands

-- whether one of these changes touches a key of the reading
abbrev pub meets : List Change → List Observation → Bool
meets changes reading = list_any (λ observation. list_any (λ change. touches change observation.key) changes) reading

-- the number, from `at` on, of the first row that passes a test
abbrev pub first_where : {O : Type 0} → (ℕ → Row O → Bool) → List (Row O) → ℕ → Option ℕ
first_where test [] at = None
first_where test (row ∷ rows) at = if test at row then Some at else first_where test rows (at + 1)

-- the row of an operation with its outcome
abbrev pub answered : {O : Type 0} → List ℕ → O → Outcome → Row O
answered operator c done =
    record { operator = operator; request = Do c; reply = Answered done.answer; changes = done.changes; reading = done.reading; undone_by = None }

-- a row that holds no changes and looked at nothing
abbrev pub bare : {O : Type 0} → List ℕ → Request O → RowReply → Row O
bare operator request reply = record { operator = operator; request = request; reply = reply; changes = []; reading = []; undone_by = None }

-- the row of an undo
abbrev pub row_of_undo : {O : Type 0} → List ℕ → ℕ → RowReply → Row O
row_of_undo operator n reply = bare operator (Undo n) reply

-- the row of a redo
abbrev pub row_of_redo : {O : Type 0} → List ℕ → ℕ → RowReply → Row O
row_of_redo operator n reply = bare operator (Redo n) reply

-- the rows after setting the mark of the row at index k: undone by this row, or by none
abbrev pub mark : {O : Type 0} → List (Row O) → ℕ → Option ℕ → List (Row O)
mark [] k by = []
mark (row ∷ rows) zero by = record row { undone_by = by } ∷ rows
mark (row ∷ rows) (suc k) by = row ∷ mark rows k by

-- the rows after row n is marked as undone by row `by`
abbrev pub undone : {O : Type 0} → List (Row O) → ℕ → ℕ → List (Row O)
undone rows zero by = rows
undone rows (suc k) by = mark rows k (Some by)

-- the rows after row n is marked as not undone
abbrev pub redone : {O : Type 0} → List (Row O) → ℕ → List (Row O)
redone rows zero = rows
redone rows (suc k) = mark rows k None

-- the row that undid row n, after row `at` had this reply: row `at` if it undid row n, none if it
-- redid row n, else as before
abbrev pub undoer_then : RowReply → (at n : ℕ) → Option ℕ → Option ℕ
undoer_then (Answered answer) at n by = by
undoer_then (Undid k) at n by = if k == n then Some at else by
undoer_then (UndoRefused refusal) at n by = by
undoer_then (Redid k) at n by = if k == n then None else by
undoer_then (RedoRefused refusal) at n by = by

-- the same after several rows, which are numbered from `at` on
abbrev pub undoer_from : {O : Type 0} → List (Row O) → (at n : ℕ) → Option ℕ → Option ℕ
undoer_from [] at n by = by
undoer_from (row ∷ rows) at n by = undoer_from rows (at + 1) n (undoer_then row.reply at n by)

-- the last accepted undo or redo of row n, if there is one and it is an undo
abbrev pub undoer : {O : Type 0} → List (Row O) → ℕ → Option ℕ
undoer rows n = undoer_from rows 1 n None

-- the same just before row u was made
abbrev pub undoer_before : {O : Type 0} → List (Row O) → (u n : ℕ) → Option ℕ
undoer_before rows u n = undoer (take (u - 1) rows) n

abbrev pub undone_by_at : {O : Type 0} → Option (Row O) → Option ℕ
undone_by_at None = None
undone_by_at (Some row) = row.undone_by

-- Each row is marked with the row that undid it; a number without a row is not undone.
abbrev pub MarksAgree : {O : Type 0} → List (Row O) → Type 0
MarksAgree rows = (n : ℕ) → undone_by_at (row_at rows n) ≡ undoer rows n

-- the row that was undone or redone
abbrev pub toggled : RowReply → Option ℕ
toggled (Answered answer) = None
toggled (Undid n) = Some n
toggled (UndoRefused refusal) = None
toggled (Redid n) = Some n
toggled (RedoRefused refusal) = None

-- Row m is an accepted undo of row n,
abbrev pub Undoes : {O : Type 0} → List (Row O) → (m n : ℕ) → Type 0
Undoes {O} rows m n = (undo : Row O) × (row_at rows m ≡ Some undo) × (undo.reply ≡ Undid n)

-- or an accepted undo or redo of it, a toggle.
abbrev pub Toggles : {O : Type 0} → List (Row O) → (m n : ℕ) → Type 0
Toggles {O} rows m n = (row : Row O) × (row_at rows m ≡ Some row) × (toggled row.reply ≡ Some n)

-- A row is marked as undone by row m exactly if m is an accepted undo of it and no later row is an
-- accepted undo or redo of it. What is undone or redone is one of the rows.
pub record AreMarked {O : Type 0} (rows : List (Row O)) : Type 0 where
  pub marked : (n m : ℕ) (row : Row O) → row_at rows n ≡ Some row → (row.undone_by ≡ Some m) ↔ (Undoes rows m n × ((l : ℕ) → m < l → Toggles rows l n → ⊥))
  pub of_row : (m n : ℕ) → Toggles rows m n → is_some (row_at rows n) ≡ true

-- the rows after an undo of row n, given its refusal if any
abbrev pub rows_undone : {O : Type 0} → List ℕ → List (Row O) → ℕ → Option UndoRefusal → List (Row O)
rows_undone operator rows n None = undone rows n (length rows + 1) ++ row_of_undo operator n (Undid n) ∷ []
rows_undone operator rows n (Some refusal) = rows ++ row_of_undo operator n (UndoRefused refusal) ∷ []

-- the rows after a redo of row n, given its refusal if any
abbrev pub rows_redone : {O : Type 0} → List ℕ → List (Row O) → ℕ → Option RedoRefusal → List (Row O)
rows_redone operator rows n None = redone rows n ++ row_of_redo operator n (Redid n) ∷ []
rows_redone operator rows n (Some refusal) = rows ++ row_of_redo operator n (RedoRefused refusal) ∷ []

-- this refusal, or else the survivor that blocks the row
abbrev pub or_blocked : Option UndoRefusal → Option ℕ → Option UndoRefusal
or_blocked (Some refusal) blocker = Some refusal
or_blocked None (Some m) = Some (Blocked m)
or_blocked None None = None

-- why a row can't be undone, independently of later rows, from its command and the row that undid
-- it
abbrev pub row_refusal : {O : Type 0} → Option O → Option ℕ → Option UndoRefusal
row_refusal None by = Some NotACommand
row_refusal (Some c) None = None
row_refusal (Some c) (Some by) = Some (AlreadyUndone by)

-- the row that undid a command, if any
abbrev pub undone_command : {O : Type 0} → Option O → Option ℕ → Option ℕ
undone_command None by = None
undone_command (Some c) by = by

-- this refusal, or else the row that hinders the redo
abbrev pub or_hindered : Option RedoRefusal → Option ℕ → Option RedoRefusal
or_hindered (Some refusal) hindrance = Some refusal
or_hindered None (Some m) = Some (redos.Hindered m)
or_hindered None None = None

-- why a row can't be redone, independently of the other rows, from its command and the row that
-- undid it
abbrev pub row_redo_refusal : {O : Type 0} → Option O → Option ℕ → Option RedoRefusal
row_redo_refusal None by = Some redos.NotACommand
row_redo_refusal (Some c) None = Some redos.NotUndone
row_redo_refusal (Some c) (Some by) = None

-- the first one, or else the second
abbrev pub or_later : Option ℕ → Option ℕ → Option ℕ
or_later None later = later
or_later (Some m) later = Some m

-- whether a row is undone according to exactly one of these marks
abbrev pub differ : Option ℕ → Option ℕ → Bool
differ None by = is_some by
differ (Some m) by = if is_some by then false else true

-- whether it is the reply of a refused undo or redo
abbrev pub is_told_refused : RowReply → Bool
is_told_refused (Answered answer) = false
is_told_refused (Undid n) = false
is_told_refused (UndoRefused refusal) = true
is_told_refused (Redid n) = false
is_told_refused (RedoRefused refusal) = true

abbrev pub ChangesSlots : {O : Type 0} → Row O → Type 0
ChangesSlots row = All (λ change. is_slot change.path ≡ true) row.changes

-- the tree with some commands run on it, in order
abbrev pub after_commands : {O : Type 0} → (O → Inquiry Effect) → List O → Entries → Entries
after_commands meaning [] t = t
after_commands meaning (c ∷ commands) t = after_commands meaning commands (after_changes (outcome_of meaning c t).changes t)

module _ {O : Type 0} (asks : O → Bool) where
  -- an accepted operation that isn't a question
  abbrev pub command_of : O → Answer → Option O
  command_of c answer = if asks c || is_refused answer then None else Some c

  -- the accepted command of a row, if it is one
  abbrev pub accepted : Request O → RowReply → Option O
  accepted (Do c) (Answered answer) = command_of c answer
  accepted (Do c) (Undid n) = None
  accepted (Do c) (UndoRefused refusal) = None
  accepted (Do c) (Redid n) = None
  accepted (Do c) (RedoRefused refusal) = None
  accepted (Undo n) reply = None
  accepted (Redo n) reply = None

  -- the command of a row that survives: it was accepted and isn't undone
  abbrev pub survivor : Row O → Option O
  survivor row = unless_undone row.undone_by (accepted row.request row.reply)

  -- the commands of the rows that survive, in order
  abbrev pub survivors : List (Row O) → List O
  survivors [] = []
  survivors (row ∷ rows) = with_command (survivor row) (survivors rows)

  -- the number, from `at` on, of the first survivor with a key in its reading that these changes
  -- touch
  abbrev pub first_met : List Change → List (Row O) → ℕ → Option ℕ
  first_met changes [] at = None
  first_met changes (row ∷ rows) at = if is_some (survivor row) && meets changes row.reading then Some at else first_met changes rows (at + 1)

  -- the numbers, from `at` on, of the survivors with a key in their reading that this change
  -- touches
  abbrev pub readers_from : Change → List (Row O) → ℕ → List ℕ
  readers_from change [] at = []
  readers_from change (row ∷ rows) at =
      if is_some (survivor row) && meets (change ∷ []) row.reading then at ∷ readers_from change rows (at + 1) else readers_from change rows (at + 1)

  -- the numbers of the survivors that looked at what a change touches
  abbrev pub readers_of : List (Row O) → Change → List ℕ
  readers_of rows change = readers_from change rows 1

  -- the first later survivor with a key in its reading that a change of row n touches; none if row
  -- n isn't a survivor
  abbrev pub blocker_at : List (Row O) → ℕ → Option (Row O) → Option ℕ
  blocker_at rows n None = None
  blocker_at rows n (Some row) = if is_some (survivor row) then first_met row.changes (drop n rows) (n + 1) else None

  abbrev pub blocker : List (Row O) → ℕ → Option ℕ
  blocker rows n = blocker_at rows n (row_at rows n)

  -- Why an undo of row n is refused, if it is: no row has this number, or it isn't an accepted
  -- command, or it is already undone, or a later survivor blocks it.
  abbrev pub refusal_at : List (Row O) → ℕ → Option (Row O) → Option UndoRefusal
  refusal_at rows n None = Some NoSuchRow
  refusal_at rows n (Some row) = or_blocked (row_refusal (accepted row.request row.reply) row.undone_by) (blocker_at rows n (Some row))

  abbrev pub undo_refusal : List (Row O) → ℕ → Option UndoRefusal
  undo_refusal rows n = refusal_at rows n (row_at rows n)

  -- whether a row is a command that has flipped: it is undone according to exactly one of its
  -- current mark and its earlier mark
  abbrev pub has_flipped : Option ℕ → Row O → Bool
  has_flipped was row = is_some (accepted row.request row.reply) && differ was row.undone_by

  -- the number, from `at` on, of the first command that has flipped since the rows had these marks,
  -- and one of whose changes touches a key of the reading
  abbrev pub first_flipped : (marks : ℕ → Option ℕ) → List Observation → List (Row O) → ℕ → Option ℕ
  first_flipped marks reading rows at = first_where (λ i row. has_flipped (marks i) row && meets row.changes reading) rows at

  -- The first row that hinders a redo of row n, which row u undid: an earlier command that has
  -- flipped since and one of whose changes touches a key of the reading of row n, or a later
  -- survivor with a key in its reading that a change of row n touches.
  abbrev pub hindrance_since : List (Row O) → ℕ → Row O → Option ℕ → Option ℕ
  hindrance_since rows n row None = None
  hindrance_since rows n row (Some u) =
      or_later (first_flipped (undoer_before rows u) row.reading (take (n - 1) rows) 1) (first_met row.changes (drop n rows) (n + 1))

  -- none if row n isn't an undone command
  abbrev pub hindrance_at : List (Row O) → ℕ → Option (Row O) → Option ℕ
  hindrance_at rows n None = None
  hindrance_at rows n (Some row) = hindrance_since rows n row (undone_command (accepted row.request row.reply) row.undone_by)

  abbrev pub hindrance : List (Row O) → ℕ → Option ℕ
  hindrance rows n = hindrance_at rows n (row_at rows n)

  -- Why a redo of row n is refused, if it is: no row has this number, or it isn't an accepted
  -- command, or it isn't undone, or a row hinders it.
  abbrev pub redo_refusal_at : List (Row O) → ℕ → Option (Row O) → Option RedoRefusal
  redo_refusal_at rows n None = Some redos.NoSuchRow
  redo_refusal_at rows n (Some row) = or_hindered (row_redo_refusal (accepted row.request row.reply) row.undone_by) (hindrance_at rows n (Some row))

  abbrev pub redo_refusal : List (Row O) → ℕ → Option RedoRefusal
  redo_refusal rows n = redo_refusal_at rows n (row_at rows n)

  -- whether a call was a question or was refused, from its row
  abbrev pub is_idle : Request O → RowReply → Bool
  is_idle (Do c) (Answered answer) = asks c || is_refused answer
  is_idle (Do c) (Undid n) = false
  is_idle (Do c) (UndoRefused refusal) = true
  is_idle (Do c) (Redid n) = false
  is_idle (Do c) (RedoRefused refusal) = true
  is_idle (Undo n) reply = is_told_refused reply
  is_idle (Redo n) reply = is_told_refused reply

  module _ (meaning : O → Inquiry Effect) where
    -- the tree after a command, if there is one
    abbrev pub after : Option O → Entries → Entries
    after None t = t
    after (Some c) t = after_changes (outcome_of meaning c t).changes t

    -- the tree with the commands of the rows that survive run on it, in order
    abbrev pub replay : Entries → List (Row O) → Entries
    replay t [] = t
    replay t (row ∷ rows) = replay (after (survivor row) t) rows

    -- On this tree the command's answer, changes and reading are those of its row.
    abbrev pub AnswersHere : Option O → Entries → Row O → Type 0
    AnswersHere None t row = Unit {0}
    AnswersHere (Some c) t row =
        (row.reply ≡ Answered (outcome_of meaning c t).answer) × (row.changes ≡ (outcome_of meaning c t).changes) × (row.reading ≡ (outcome_of meaning c t).reading)

    -- In the replay this holds for each survivor.
    abbrev pub AnswersAlike : Entries → List (Row O) → Type 0
    AnswersAlike t [] = Unit {0}
    AnswersAlike t (row ∷ rows) = AnswersHere (survivor row) t row × AnswersAlike (after (survivor row) t) rows

    -- the rows after a call: an operation runs on the replay
    abbrev pub rows_by : Entries → List (Row O) → List ℕ → Request O → List (Row O)
    rows_by first rows operator (Do c) = rows ++ answered operator c (outcome_of meaning c (replay first rows)) ∷ []
    rows_by first rows operator (Undo n) = rows_undone operator rows n (undo_refusal rows n)
    rows_by first rows operator (Redo n) = rows_redone operator rows n (redo_refusal rows n)

    abbrev pub rows_after : Entries → List (Row O) → Call O → List (Row O)
    rows_after first rows call = rows_by first rows call.0 call.1

    -- the rows after a list of calls
    abbrev pub run : Entries → List (Row O) → List (Call O) → List (Row O)
    run first rows [] = rows
    run first rows (call ∷ calls) = run first (rows_after first rows call) calls

    -- A call that was refused or is a question changes nothing: the rows before its own are
    -- unchanged, its own isn't a survivor, and the tree is unchanged.
    abbrev pub IdleStays : Entries → List (Row O) → List (Row O) → Type 0
    IdleStays first old new = (before : List (Row O)) (row : Row O) → new ≡ before ++ row ∷ [] → is_idle row.request row.reply ≡ true
        → (before ≡ old) × (survivor row ≡ None) × (replay first new ≡ replay first old)

    -- A command that is undone at once, with only refused calls or questions after it, may be
    -- undone, and then the tree is exactly the one on which it ran.
    abbrev pub GivesBack : Entries → List (Row O) → ℕ → List (Row O) → Type 0
    GivesBack first old n new = (before later : List (Row O)) (row : Row O) → old ≡ before ++ row ∷ later → n ≡ length before + 1
        → is_some (survivor row) ≡ true → All (λ r. is_idle r.request r.reply ≡ true) later
        → (undo_refusal old n ≡ None) × (replay first new ≡ replay first before)

    -- An undone command that no row hinders is redone: it survives at its own place, its changes
    -- are made to the tree, and it and every other survivor have the answers of their rows in the
    -- replay.
    abbrev pub Restores : Entries → List (Row O) → ℕ → List (Row O) → Type 0
    Restores first old n new = (row : Row O) → row_at old n ≡ Some row → is_some (accepted row.request row.reply) ≡ true → is_some row.undone_by ≡ true
        → hindrance old n ≡ None
        → (row_at new n ≡ Some (record row { undone_by = None }))
        × (replay first new ≡ after_changes row.changes (replay first old))
        × AnswersAlike first new

    -- The rows are those of the state machine, which runs everything again for each call, and the
    -- stored tree is the replay.
    pub record IsKept (first tree : Entries) (rows : List (Row O)) (limit : ℕ) : Type 0 where
      pub legal : rows ≡ run first [] (calls_of rows)
      pub tree_is : tree ≡ replay first rows
      pub slots : All ChangesSlots rows
      pub few : length rows ≤ limit
      pub bounded : limit ≤ 1000000
