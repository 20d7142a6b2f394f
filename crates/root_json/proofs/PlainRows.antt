-- All that is printed is data without floats that nest at most 5 deep.
use Rattle.std.proofs.Common.{ℕ, Bool, true, List, [], ◌∷◌, length, Option, Some, None, option_map, arith}
use Rattle.std.specs.FinMap as finite
use Rattle.link_tree.specs.declared.entry.Entry.{Entry}
use Rattle.link_tree.specs.declared.entry.Entry.TheVariants.{File, Link}
use Rattle.link_tree.specs.declared.change.Change.{Change}
use Rattle.unit_file.specs.declared.notice.Notice.{Notice}
use Rattle.unit_file.specs.Notices.{NoticeMap, key_text, reason_text}
use Rattle.footprint.specs.declared.answer.Answer.{Answer}
use Rattle.footprint.specs.declared.answer.Answer.TheVariants.{Done, State, Name, Names, Refused}
use Rattle.footprint.specs.declared.answer.StateWord.{StateWord}
use Rattle.tree_access.specs.declared.refusal.Refusal.{Refusal}
use Rattle.tree_access.specs.declared.refusal.Refusal.TheVariants.{NotFound, Masked, Dangling, BadType, NeedsInstance, NotASlot, Absent, Exists, IsAlias, TooMany, Clash}
use Rattle.tree_access.specs.declared.refusal.Subject.{Subject}
use Rattle.tree_access.specs.declared.refusal.Subject.TheVariants.{Unit, Path}
use Rattle.history.specs.declared.row.UndoRefusal.{UndoRefusal}
use Rattle.history.specs.declared.row.UndoRefusal.TheVariants.{NoSuchRow, NotACommand, AlreadyUndone, Blocked}
use Rattle.history.specs.declared.row.RedoRefusal.{RedoRefusal}
use Rattle.history.specs.declared.row.RedoRefusal.TheVariants as redos
use Rattle.history.specs.declared.row.Row.{Row}
use Rattle.history.specs.declared.row.RowReply.{RowReply}
use Rattle.history.specs.declared.row.RowReply.TheVariants.{Answered, Undid, UndoRefused, Redid, RedoRefused}
use Rattle.unit_script.specs.declared.action.Action.{Action}
use Rattle.tree_access.specs.declared.key.Key.{Key}
use Rattle.tree_access.specs.declared.key.Key.TheVariants.{Cell, Marked, Presets, Links}
use Rattle.tree_access.specs.declared.reading.Observation.{Observation}
use Rattle.unit_lists.specs.UnitLines.{listed_state_text}
use Rattle.unit_script.specs.Texts.{state_text, is_success, number_asked, shown_changes}
use Rattle.unit_lists.specs.declared.status.UnitStatus.{UnitStatus}
use Rattle.unit_lists.specs.StatusTexts.{loaded_word, loaded_path}
use Rattle.unit_lists.specs.UnitLines.{preset_text}
use Rattle.serde_json.specs.Data.{Data, Members, no_members}
use Rattle.root_json.specs.Objects.{◌with◌being◌, count}
use Rattle.root_json.specs.Changes.{with_entry, entry_data, side_data, sides_data, change_data, changes_data}
use Rattle.root_json.specs.Answers.{notice_data, notices_data, with_subject, kind, of_unit, of_path, refusal_members, of_row, by_row, undo_refusal_members, redo_refusal_members, with_reply_word, with_state, with_refusal, with_answer, with_row_of, with_reply}
use Rattle.root_json.specs.Rows.{with_line, with_words, call_members, row_data}
use Rattle.root_json.specs.Logs.{with_run, row_or_null, with_changes, log_members, log_data, scope_text, key_members, key_data, keys_data, numbers_data, refusal_or_null, shown_members, shown_data}
use Rattle.root_json.specs.Lines.{summary_data, word_data, unit_file_data, unit_members, unit_data, state_data, with_word, error_data, path_data, status_data, warning_data, maker_data}
use Rattle.root_json.proofs.Plain.{IsPlain, ArePlain, none_plain, member_plain, object_plain, null_plain, boolean_plain, count_plain, string_plain, text_plain, array_plain, texts_plain}

-- one member more, with the facts in the order in which members are read from the end
last : (n : ℕ) (ms : Members) (k : List ℕ) (d : Data) → IsPlain n d → ArePlain n ms → ArePlain n (ms with k being d)
last n ms k d one those = member_plain n ms k d those one

entry_of_plain : (entry : Entry) → ArePlain 1 (with_entry no_members entry)
entry_of_plain (File contents) = last 1 _ _ _ (count_plain 1 (length contents)) (none_plain 1)
entry_of_plain (Link target) = last 1 _ _ _ (text_plain 0 target) (none_plain 1)

entry_plain : (entry : Entry) → IsPlain 2 (entry_data entry)
entry_plain entry = object_plain 1 2 _ (omega arith) (entry_of_plain entry)

side_plain : (entry : Option Entry) → IsPlain 2 (side_data entry)
side_plain None = null_plain 2
side_plain (Some entry) = entry_plain entry

sides_plain : (path : List ℕ) (before after : Option Entry) → IsPlain 3 (sides_data path before after)
sides_plain path before after =
    object_plain 2 3 _ (omega arith) (last 2 _ _ _ (side_plain after) (last 2 _ _ _ (side_plain before) (last 2 _ _ _ (text_plain 1 path) (none_plain 2))))

pub change_plain : (change : Change) → IsPlain 3 (change_data change)
change_plain change = sides_plain change.path change.before change.after

changes_plain : (changes : List Change) → IsPlain 4 (changes_data changes)
changes_plain changes = array_plain 3 4 change_data changes (omega arith) change_plain

notice_plain : (notice : Notice) → IsPlain 2 (notice_data notice)
notice_plain notice =
    object_plain 1 2 _ (omega arith)
    (last 1 _ _ _ (string_plain 1 (reason_text notice.reason))
    (last 1 _ _ _ (text_plain 0 notice.word)
    (last 1 _ _ _ (string_plain 1 (key_text notice.key))
    (last 1 _ _ _ (text_plain 0 notice.unit) (none_plain 1)))))

notices_plain : (notices : NoticeMap) → IsPlain 4 (notices_data notices)
notices_plain notices = array_plain 2 4 notice_data (finite.values notices) (omega arith) notice_plain

kind_plain : (word : List ℕ) → ArePlain 1 (kind word)
kind_plain word = last 1 _ _ _ (string_plain 1 word) (none_plain 1)

subject_plain : (ms : Members) (subject : Subject) → ArePlain 1 ms → ArePlain 1 (with_subject ms subject)
subject_plain ms (Unit name) those = last 1 _ _ _ (text_plain 0 name) those
subject_plain ms (Path path) those = last 1 _ _ _ (text_plain 0 path) those

unit_plain : (word name : List ℕ) → ArePlain 1 (of_unit word name)
unit_plain word name = last 1 _ _ _ (text_plain 0 name) (kind_plain word)

path_plain : (word path : List ℕ) → ArePlain 1 (of_path word path)
path_plain word path = last 1 _ _ _ (text_plain 0 path) (kind_plain word)

refusal_plain : (refusal : Refusal) → ArePlain 1 (refusal_members refusal)
refusal_plain (NotFound subject) = subject_plain _ subject (kind_plain _)
refusal_plain (Masked subject) = subject_plain _ subject (kind_plain _)
refusal_plain (Dangling link) = path_plain _ link
refusal_plain (BadType subject) = subject_plain _ subject (kind_plain _)
refusal_plain (NeedsInstance name) = unit_plain _ name
refusal_plain (NotASlot path) = path_plain _ path
refusal_plain (Absent path) = path_plain _ path
refusal_plain (Exists path) = path_plain _ path
refusal_plain (IsAlias unit real) = last 1 _ _ _ (text_plain 0 real) (unit_plain _ unit)
refusal_plain TooMany = kind_plain _
refusal_plain (Clash path) = path_plain _ path

row_of_plain : (word : List ℕ) (n : ℕ) → ArePlain 1 (of_row word n)
row_of_plain word n = last 1 _ _ _ (count_plain 1 n) (kind_plain word)

by_row_plain : (word : List ℕ) (n by : ℕ) → ArePlain 1 (by_row word n by)
by_row_plain word n by = last 1 _ _ _ (count_plain 1 by) (row_of_plain word n)

undo_plain : (n : ℕ) (refusal : UndoRefusal) → ArePlain 1 (undo_refusal_members n refusal)
undo_plain n NoSuchRow = row_of_plain _ n
undo_plain n NotACommand = row_of_plain _ n
undo_plain n (AlreadyUndone by) = by_row_plain _ n by
undo_plain n (Blocked by) = by_row_plain _ n by

redo_plain : (n : ℕ) (refusal : RedoRefusal) → ArePlain 1 (redo_refusal_members n refusal)
redo_plain n redos.NoSuchRow = row_of_plain _ n
redo_plain n redos.NotACommand = row_of_plain _ n
redo_plain n redos.NotUndone = row_of_plain _ n
redo_plain n (redos.Hindered by) = by_row_plain _ n by

reply_word_plain : (ms : Members) (word : List ℕ) → ArePlain 4 ms → ArePlain 4 (with_reply_word ms word)
reply_word_plain ms word those = last 4 _ _ _ (string_plain 4 word) those

state_of_plain : (ms : Members) (state : StateWord) → ArePlain 4 ms → ArePlain 4 (with_state ms state)
state_of_plain ms state those =
    last 4 _ _ _ (boolean_plain 4 (is_success state)) (last 4 _ _ _ (string_plain 4 (state_text state)) those)

refused_plain : (ms refusal : Members) → ArePlain 1 refusal → ArePlain 4 ms → ArePlain 4 (with_refusal ms refusal)
refused_plain ms refusal why those = last 4 _ _ _ (object_plain 1 4 refusal (omega arith) why) (reply_word_plain ms _ those)

answer_plain : (ms : Members) (answer : Answer) → ArePlain 4 ms → ArePlain 4 (with_answer ms answer)
answer_plain ms (Done notices) those = last 4 _ _ _ (notices_plain notices) (reply_word_plain ms _ those)
answer_plain ms (State state) those = state_of_plain _ state (reply_word_plain ms _ those)
answer_plain ms (Name name) those = last 4 _ _ _ (text_plain 3 name) (reply_word_plain ms _ those)
answer_plain ms (Names names) those = last 4 _ _ _ (texts_plain 2 names) (reply_word_plain ms _ those)
answer_plain ms (Refused refusal) those = refused_plain ms _ (refusal_plain refusal) those

with_row_of_plain : (ms : Members) (word : List ℕ) (n : ℕ) → ArePlain 4 ms → ArePlain 4 (with_row_of ms word n)
with_row_of_plain ms word n those = last 4 _ _ _ (count_plain 4 n) (reply_word_plain ms word those)

reply_plain : (ms : Members) (n : ℕ) (reply : RowReply) → ArePlain 4 ms → ArePlain 4 (with_reply ms n reply)
reply_plain ms n (Answered answer) those = answer_plain ms answer those
reply_plain ms n (Undid m) those = with_row_of_plain ms _ m those
reply_plain ms n (UndoRefused refusal) those = refused_plain ms _ (undo_plain n refusal) those
reply_plain ms n (Redid m) those = with_row_of_plain ms _ m those
reply_plain ms n (RedoRefused refusal) those = refused_plain ms _ (redo_plain n refusal) those

line_plain : (ms : Members) (line : Option ℕ) → ArePlain 4 ms → ArePlain 4 (with_line ms line)
line_plain ms None those = those
line_plain ms (Some line) those = last 4 _ _ _ (count_plain 4 line) those

words_plain : (ms : Members) (words : List (List ℕ)) → ArePlain 4 ms → ArePlain 4 (with_words ms words)
words_plain ms [] those = those
words_plain ms (word ∷ words) those = last 4 _ _ _ (texts_plain 2 (word ∷ words)) those

call_plain : (made : Bool) (line : Option ℕ) (words : List (List ℕ)) (number : ℕ) (operator : List ℕ) → ArePlain 4 (call_members made line words number operator)
call_plain made line words number operator =
    words_plain _ words (line_plain _ line
    (last 4 _ _ _ (boolean_plain 4 made)
    (last 4 _ _ _ (text_plain 3 operator)
    (last 4 _ _ _ (count_plain 4 number) (none_plain 4)))))

pub row_plain : (made : Bool) (line : Option ℕ) (words : List (List ℕ)) (all : List (Row Action)) (number : ℕ) (row : Row Action) → IsPlain 5 (row_data made line words all number row)
row_plain made line words all number row =
    object_plain 4 5 _ (omega arith)
    (last 4 _ _ _ (changes_plain (shown_changes all row.reply row.changes))
    (reply_plain _ (number_asked row.request) row.reply (call_plain made line words number row.operator)))

pub summary_plain : (calls refused : ℕ) (dry_run made : Bool) (changes : List Change) → IsPlain 5 (summary_data calls refused dry_run made changes)
summary_plain calls refused dry_run made changes =
    object_plain 4 5 _ (omega arith)
    (last 4 _ _ _ (changes_plain changes)
    (last 4 _ _ _ (boolean_plain 4 made)
    (last 4 _ _ _ (boolean_plain 4 dry_run)
    (last 4 _ _ _ (count_plain 4 refused)
    (last 4 _ _ _ (count_plain 4 calls) (none_plain 4))))))

word_plain : (word : Option (List ℕ)) → IsPlain 4 (word_data word)
word_plain None = null_plain 4
word_plain (Some word) = string_plain 4 word

pub unit_file_plain : (name : List ℕ) (state : StateWord) (preset : Option (List ℕ)) → IsPlain 5 (unit_file_data name state preset)
unit_file_plain name state preset =
    object_plain 4 5 _ (omega arith)
    (last 4 _ _ _ (word_plain preset)
    (last 4 _ _ _ (string_plain 4 (listed_state_text state))
    (last 4 _ _ _ (text_plain 3 name) (none_plain 4))))

named_plain : (name : List ℕ) → ArePlain 4 (unit_members name)
named_plain name = last 4 _ _ _ (text_plain 3 name) (none_plain 4)

pub unit_line_plain : (name : List ℕ) → IsPlain 5 (unit_data name)
unit_line_plain name = object_plain 4 5 _ (omega arith) (named_plain name)

pub state_plain : (name : List ℕ) (state : StateWord) → IsPlain 5 (state_data name state)
state_plain name state = object_plain 4 5 _ (omega arith) (state_of_plain _ state (named_plain name))

bad_word_plain : (ms : Members) (word : Option (List ℕ)) → ArePlain 4 ms → ArePlain 4 (with_word ms word)
bad_word_plain ms None those = those
bad_word_plain ms (Some word) those = last 4 _ _ _ (text_plain 3 word) those

pub error_plain : (text : List ℕ) (status : ℕ) (line : Option ℕ) (word : Option (List ℕ)) → IsPlain 5 (error_data text status line word)
error_plain text status line word =
    object_plain 4 5 _ (omega arith)
    (bad_word_plain _ word (line_plain _ line
    (last 4 _ _ _ (count_plain 4 status)
    (last 4 _ _ _ (text_plain 3 text) (none_plain 4)))))

path_or_null_plain : (path : List ℕ) → IsPlain 4 (path_data path)
path_or_null_plain [] = null_plain 4
path_or_null_plain (b ∷ bs) = text_plain 3 (b ∷ bs)

pub status_plain : (status : UnitStatus) → IsPlain 5 (status_data status)
status_plain status =
    object_plain 4 5 _ (omega arith)
    (last 4 _ _ _ (texts_plain 2 status.run.items)
    (last 4 _ _ _ (texts_plain 2 status.etc.items)
    (last 4 _ _ _ (word_plain (option_map preset_text status.preset))
    (last 4 _ _ _ (string_plain 4 (state_text status.state))
    (last 4 _ _ _ (path_or_null_plain (loaded_path status.mask status.found))
    (last 4 _ _ _ (string_plain 4 (loaded_word status.found))
    (last 4 _ _ _ (text_plain 3 status.name) (none_plain 4))))))))

pub warning_plain : (name warning : List ℕ) → IsPlain 5 (warning_data name warning)
warning_plain name warning = object_plain 4 5 _ (omega arith) (last 4 _ _ _ (text_plain 3 warning) (named_plain name))

pub maker_plain : (unit path : List ℕ) (row : ℕ) (operator : List ℕ) → IsPlain 5 (maker_data unit path row operator)
maker_plain unit path row operator =
    object_plain 4 5 _ (omega arith)
    (last 4 _ _ _ (text_plain 3 operator) (last 4 _ _ _ (count_plain 4 row) (last 4 _ _ _ (text_plain 3 path) (named_plain unit))))

run_plain : (ms : Members) (time login program : List ℕ) → ArePlain 4 ms → ArePlain 4 (with_run ms time login program)
run_plain ms time login program those =
    last 4 _ _ _ (text_plain 3 program) (last 4 _ _ _ (text_plain 3 login) (last 4 _ _ _ (text_plain 3 time) those))

row_or_null_plain : (row : Option ℕ) → IsPlain 4 (row_or_null row)
row_or_null_plain None = null_plain 4
row_or_null_plain (Some n) = count_plain 4 n

with_changes_plain : (ms : Members) (all : List (Row Action)) (row : Row Action) → ArePlain 4 ms → ArePlain 4 (with_changes ms all row)
with_changes_plain ms all row those =
    last 4 _ _ _ (row_or_null_plain row.undone_by) (last 4 _ _ _ (changes_plain (shown_changes all row.reply row.changes)) those)

log_members_plain : (time login program : List ℕ) (words : List (List ℕ)) (all : List (Row Action)) (number : ℕ) (row : Row Action) → ArePlain 4 (log_members time login program words all number row)
log_members_plain time login program words all number row =
    with_changes_plain _ all row (run_plain _ time login program
    (reply_plain _ (number_asked row.request) row.reply (call_plain true None words number row.operator)))

pub log_plain : (time login program : List ℕ) (words : List (List ℕ)) (all : List (Row Action)) (number : ℕ) (row : Row Action) → IsPlain 5 (log_data time login program words all number row)
log_plain time login program words all number row =
    object_plain 4 5 _ (omega arith) (log_members_plain time login program words all number row)

key_of_plain : (key : Key) → ArePlain 1 (key_members key)
key_of_plain (Cell path) = path_plain _ path
key_of_plain (Marked scope name) = last 1 _ _ _ (string_plain 1 (scope_text scope)) (unit_plain _ name)
key_of_plain Presets = kind_plain _
key_of_plain Links = kind_plain _

key_plain : (observation : Observation) → IsPlain 2 (key_data observation)
key_plain observation = object_plain 1 2 _ (omega arith) (key_of_plain observation.key)

keys_plain : (reading : List Observation) → IsPlain 4 (keys_data reading)
keys_plain reading = array_plain 2 4 key_data reading (omega arith) key_plain

numbers_plain : (numbers : List ℕ) → IsPlain 4 (numbers_data numbers)
numbers_plain numbers = array_plain 1 4 count numbers (omega arith) (count_plain 1)

refusal_or_null_plain : (n : ℕ) (refusal : Option UndoRefusal) → IsPlain 4 (refusal_or_null n refusal)
refusal_or_null_plain n None = null_plain 4
refusal_or_null_plain n (Some refusal) = object_plain 1 4 _ (omega arith) (undo_plain n refusal)

shown_members_plain : (ms : Members) (number : ℕ) (row : Row Action) (undo : List ℕ) (refusal : Option UndoRefusal) → ArePlain 4 ms → ArePlain 4 (shown_members ms number row undo refusal)
shown_members_plain ms number row undo refusal those =
    last 4 _ _ _ (refusal_or_null_plain number refusal) (last 4 _ _ _ (numbers_plain undo) (last 4 _ _ _ (keys_plain row.reading) those))

pub shown_plain : (time login program : List ℕ) (words : List (List ℕ)) (all : List (Row Action)) (number : ℕ) (row : Row Action) (undo : List ℕ) (refusal : Option UndoRefusal) → IsPlain 5 (shown_data time login program words all number row undo refusal)
shown_plain time login program words all number row undo refusal =
    object_plain 4 5 _ (omega arith) (shown_members_plain _ number row undo refusal (log_members_plain time login program words all number row))
