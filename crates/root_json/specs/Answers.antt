-- Answers, refusals and notices as JSON.
use Rattle.std.specs.Prelude.{ℕ, List, codes, map}
use Rattle.std.specs.FinMap as finite
use Rattle.unit_file.specs.declared.notice.Notice.{Notice}
use Rattle.unit_file.specs.Notices.{NoticeMap, key_text, reason_text}
use Rattle.footprint.specs.declared.answer.Answer.{Answer}
use Rattle.footprint.specs.declared.answer.Answer.TheVariants.{Done, State, Name, Names, Refused}
use Rattle.footprint.specs.declared.answer.StateWord.{StateWord}
use Rattle.tree_access.specs.declared.refusal.Refusal.{Refusal}
use Rattle.tree_access.specs.declared.refusal.Refusal.TheVariants.{NotFound, Masked, Dangling, BadType, NeedsInstance, NotASlot, Absent, Exists, IsAlias, TooMany, Clash}
use Rattle.tree_access.specs.declared.refusal.Subject.{Subject}
use Rattle.tree_access.specs.declared.refusal.Subject.TheVariants.{Unit, Path}
use Rattle.history.specs.declared.row.UndoRefusal.{UndoRefusal}
use Rattle.history.specs.declared.row.UndoRefusal.TheVariants.{NoSuchRow, NotACommand, AlreadyUndone, Blocked}
use Rattle.history.specs.declared.row.RedoRefusal.{RedoRefusal}
use Rattle.history.specs.declared.row.RedoRefusal.TheVariants as redos
use Rattle.history.specs.declared.row.RowReply.{RowReply}
use Rattle.history.specs.declared.row.RowReply.TheVariants.{Answered, Undid, UndoRefused, Redid, RedoRefused}
use Rattle.unit_script.specs.Texts.{state_text, is_success}
use Rattle.serde_json.specs.Data.{Data, boolean, string, array, object, Members, no_members}
use Rattle.serde_json.specs.View.{items_of}
use Rattle.root_json.specs.Objects.{◌with◌being◌, count, text_data, texts_data}

-- a word that was skipped, after which key of which unit, and why
abbrev pub notice_data : Notice → Data
notice_data notice = object (no_members
    with codes "unit" being text_data notice.unit
    with codes "key" being string (key_text notice.key)
    with codes "word" being text_data notice.word
    with codes "reason" being string (reason_text notice.reason))

-- notices, in byte order of their lines
abbrev pub notices_data : NoticeMap → Data
notices_data notices = array (items_of (map notice_data (finite.values notices)))

-- a unit by its name, or a path
abbrev pub with_subject : Members → Subject → Members
with_subject ms (Unit name) = ms with codes "unit" being text_data name
with_subject ms (Path path) = ms with codes "path" being text_data path

abbrev pub kind : List ℕ → Members
kind word = no_members with codes "kind" being string word

abbrev pub of_unit : List ℕ → List ℕ → Members
of_unit word name = kind word with codes "unit" being text_data name

abbrev pub of_path : List ℕ → List ℕ → Members
of_path word path = kind word with codes "path" being text_data path

-- why an operation was refused: its kind, and what it names
abbrev pub refusal_members : Refusal → Members
refusal_members (NotFound subject) = with_subject (kind (codes "not-found")) subject
refusal_members (Masked subject) = with_subject (kind (codes "masked")) subject
refusal_members (Dangling link) = of_path (codes "dangling") link
refusal_members (BadType subject) = with_subject (kind (codes "bad-type")) subject
refusal_members (NeedsInstance name) = of_unit (codes "needs-instance") name
refusal_members (NotASlot path) = of_path (codes "not-a-slot") path
refusal_members (Absent path) = of_path (codes "absent") path
refusal_members (Exists path) = of_path (codes "exists") path
refusal_members (IsAlias unit real) = of_unit (codes "alias") unit with codes "real" being text_data real
refusal_members TooMany = kind (codes "too-many")
refusal_members (Clash path) = of_path (codes "clash") path

abbrev pub refusal_data : Refusal → Data
refusal_data refusal = object (refusal_members refusal)

abbrev pub of_row : List ℕ → ℕ → Members
of_row word n = kind word with codes "row" being count n

abbrev pub by_row : List ℕ → ℕ → ℕ → Members
by_row word n by = of_row word n with codes "by" being count by

-- why an undo of this row was refused
abbrev pub undo_refusal_members : ℕ → UndoRefusal → Members
undo_refusal_members n NoSuchRow = of_row (codes "no-such-row") n
undo_refusal_members n NotACommand = of_row (codes "not-a-command") n
undo_refusal_members n (AlreadyUndone by) = by_row (codes "already-undone") n by
undo_refusal_members n (Blocked by) = by_row (codes "blocked") n by

-- why a redo of this row was refused
abbrev pub redo_refusal_members : ℕ → RedoRefusal → Members
redo_refusal_members n redos.NoSuchRow = of_row (codes "no-such-row") n
redo_refusal_members n redos.NotACommand = of_row (codes "not-a-command") n
redo_refusal_members n redos.NotUndone = of_row (codes "not-undone") n
redo_refusal_members n (redos.Hindered by) = by_row (codes "hindered") n by

-- which kind of reply it is
abbrev pub with_reply_word : Members → List ℕ → Members
with_reply_word ms word = ms with codes "reply" being string word

-- a unit's state, and whether systemctl counts it as enabled
abbrev pub with_state : Members → StateWord → Members
with_state ms state = ms
    with codes "state" being string (state_text state)
    with codes "enabled" being boolean (is_success state)

abbrev pub with_refusal : Members → Members → Members
with_refusal ms refusal = with_reply_word ms (codes "refused") with codes "refusal" being object refusal

-- what an operation answers
abbrev pub with_answer : Members → Answer → Members
with_answer ms (Done notices) = with_reply_word ms (codes "ok") with codes "notices" being notices_data notices
with_answer ms (State state) = with_state (with_reply_word ms (codes "state")) state
with_answer ms (Name name) = with_reply_word ms (codes "unit") with codes "unit" being text_data name
with_answer ms (Names names) = with_reply_word ms (codes "units") with codes "units" being texts_data names
with_answer ms (Refused refusal) = with_refusal ms (refusal_members refusal)

-- the row that was undone or redone
abbrev pub with_row_of : Members → List ℕ → ℕ → Members
with_row_of ms word n = with_reply_word ms word with codes "of" being count n

-- what a call was answered that names this row if it is an undo or a redo
abbrev pub with_reply : Members → ℕ → RowReply → Members
with_reply ms n (Answered answer) = with_answer ms answer
with_reply ms n (Undid m) = with_row_of ms (codes "undid") m
with_reply ms n (UndoRefused refusal) = with_refusal ms (undo_refusal_members n refusal)
with_reply ms n (Redid m) = with_row_of ms (codes "redid") m
with_reply ms n (RedoRefused refusal) = with_refusal ms (redo_refusal_members n refusal)
