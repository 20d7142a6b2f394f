-- What one call prints, as systemctl(1) does: sentences on standard error, and on standard output
-- what was asked for.
use Rattle.std.specs.Prelude.{ℕ, Bool, true, false, List, [], ◌∷◌, ◌++◌, length, Option, Some, None, codes}
use Rattle.std.specs.List.{flat_map}
use Rattle.std.specs.Fmt.{decimal}
use Rattle.std.specs.FinMap as map
use Rattle.unit_file.specs.declared.notice.Notice.{Notice}
use Rattle.unit_file.specs.declared.notice.NoticeKey.{NoticeKey}
use Rattle.unit_file.specs.declared.notice.NoticeKey.TheVariants as keys
use Rattle.unit_file.specs.declared.notice.Reason.{Reason}
use Rattle.unit_file.specs.declared.notice.Reason.TheVariants as reasons
use Rattle.link_tree.specs.declared.entry.Entry.{Entry}
use Rattle.link_tree.specs.declared.entry.Entry.TheVariants as entries
use Rattle.link_tree.specs.declared.change.Change.{Change}
use Rattle.footprint.specs.declared.answer.Answer.TheVariants as answers
use Rattle.tree_access.specs.declared.refusal.Refusal.{Refusal}
use Rattle.tree_access.specs.declared.refusal.Refusal.TheVariants as refusals
use Rattle.history.specs.declared.row.Request.{Request}
use Rattle.history.specs.declared.row.Request.TheVariants.{Do, Undo, Redo}
use Rattle.history.specs.declared.row.UndoRefusal.{UndoRefusal}
use Rattle.history.specs.declared.row.UndoRefusal.TheVariants as undos
use Rattle.history.specs.declared.row.RedoRefusal.{RedoRefusal}
use Rattle.history.specs.declared.row.RedoRefusal.TheVariants as redos
use Rattle.history.specs.declared.row.Row.{Row}
use Rattle.history.specs.declared.row.RowReply.{RowReply}
use Rattle.history.specs.declared.row.RowReply.TheVariants as replies
use Rattle.unit_script.specs.declared.action.Action.{Action}
use Rattle.unit_script.specs.declared.action.Action.TheVariants as actions
use Rattle.unit_script.specs.Texts.{subject_text, state_text, numbered}
use Rattle.root_runs.specs.Escapes.{shown}
use Rattle.root_runs.specs.Roots.{rooted}
use Prim.Native.Char.{code}

-- an arrow between blanks, in UTF-8
abbrev pub arrow : List ℕ
arrow = code " " ∷ 0xE2 ∷ 0x86 ∷ 0x92 ∷ code " " ∷ []

-- how a sentence on a change begins: it was made, or it would be
abbrev pub removed_text : (dry_run : Bool) → List ℕ
removed_text false = codes "Removed \""
removed_text true = codes "Would remove \""

abbrev pub created_link_text : (dry_run : Bool) → List ℕ
created_link_text false = codes "Created symlink "
created_link_text true = codes "Would create symlink "

abbrev pub created_file_text : (dry_run : Bool) → List ℕ
created_file_text false = codes "Created file \""
created_file_text true = codes "Would create file \""

-- the sentence on an entry that is no longer at a path, if there was one
abbrev pub removed_line : Bool → List ℕ → List ℕ → Option Entry → List ℕ
removed_line dry_run root path None = []
removed_line dry_run root path (Some entry) = removed_text dry_run ++ rooted root path ++ codes "\".\n"

-- the sentence on an entry that is now at a path
abbrev pub created_entry : Bool → List ℕ → List ℕ → Entry → List ℕ
created_entry dry_run root path (entries.File contents) =
    created_file_text dry_run ++ rooted root path ++ codes "\" of " ++ decimal (length contents) ++ codes " bytes.\n"
created_entry dry_run root path (entries.Link target) =
    created_link_text dry_run ++ rooted root path ++ arrow ++ shown target ++ codes ".\n"

abbrev pub created_line : Bool → List ℕ → List ℕ → Option Entry → List ℕ
created_line dry_run root path None = []
created_line dry_run root path (Some entry) = created_entry dry_run root path entry

-- the sentences on a change: what was there is removed before what is there now is created
abbrev pub change_lines : Bool → List ℕ → Change → List ℕ
change_lines dry_run root change = removed_line dry_run root change.path change.before ++ created_line dry_run root change.path change.after

-- where a word that is skipped was written: systemd.unit(5), [Install]; systemd.preset(5)
abbrev pub before_word : NoticeKey → List ℕ
before_word keys.Also = codes ": Also="
before_word keys.WantedBy = codes ": WantedBy="
before_word keys.RequiredBy = codes ": RequiredBy="
before_word keys.UpheldBy = codes ": UpheldBy="
before_word keys.Alias = codes ": Alias="
before_word keys.Preset = codes ": the instance "

abbrev pub after_word : NoticeKey → List ℕ
after_word keys.Also = codes " is skipped: "
after_word keys.WantedBy = codes " is skipped: "
after_word keys.RequiredBy = codes " is skipped: "
after_word keys.UpheldBy = codes " is skipped: "
after_word keys.Alias = codes " is skipped: "
after_word keys.Preset = codes " of its preset is skipped: "

-- why it is skipped
abbrev pub skipped_reason : Reason → List ℕ
skipped_reason reasons.BadSpecifier = codes " has an unknown specifier.\n"
skipped_reason reasons.BadName = codes " is no unit's name.\n"
skipped_reason reasons.BadAlias = codes " is no name that the unit can have as an alias.\n"
skipped_reason reasons.NotFound = codes " does not exist.\n"
skipped_reason reasons.Masked = codes " is masked.\n"
skipped_reason reasons.Dangling = codes " is a link that leads to no unit file.\n"
skipped_reason reasons.IsAlias = codes " is an alias of another unit.\n"

-- the sentence on a word that was skipped
abbrev pub notice_text : Notice → List ℕ
notice_text notice =
    shown notice.unit ++ before_word notice.key ++ shown notice.word ++ after_word notice.key ++ shown notice.word ++ skipped_reason notice.reason

-- what an operation was to do, before its subject
abbrev pub purpose : Action → List ℕ
purpose (actions.Enable c) = codes "enable "
purpose (actions.Disable c) = codes "disable "
purpose (actions.Reenable c) = codes "reenable "
purpose (actions.Preset c) = codes "preset "
purpose (actions.Mask c) = codes "mask "
purpose (actions.Unmask c) = codes "unmask "
purpose (actions.LinkUnits c) = codes "link "
purpose (actions.AddTo c) = codes "add a dependency on "
purpose (actions.SetDefault c) = codes "set the default to "
purpose (actions.PlaceEntry c) = codes "place "
purpose (actions.RemoveEntry c) = codes "remove "
purpose (actions.IsEnabled c) = codes "get the state of "
purpose (actions.GetDefault c) = codes "get the default, "
purpose (actions.Dependencies c) = codes "list the dependencies of "

-- the unit or the path at fault, and what is wrong with it
abbrev pub refusal_sentence : Refusal → List ℕ
refusal_sentence (refusals.NotFound subject) = shown (subject_text subject) ++ codes ": it does not exist.\n"
refusal_sentence (refusals.Masked subject) = shown (subject_text subject) ++ codes ": it is masked.\n"
refusal_sentence (refusals.Dangling link) = shown link ++ codes ": this link leads nowhere.\n"
refusal_sentence (refusals.BadType subject) = shown (subject_text subject) ++ codes ": it has the wrong type.\n"
refusal_sentence (refusals.NeedsInstance name) = shown name ++ codes ": it is a template, and needs an instance.\n"
refusal_sentence (refusals.NotASlot path) = shown path ++ codes ": no unit, dependency or preset is read from this path.\n"
refusal_sentence (refusals.Absent path) = shown path ++ codes ": nothing is there.\n"
refusal_sentence (refusals.Exists path) = shown path ++ codes ": something else is there.\n"
refusal_sentence (refusals.IsAlias unit real) = shown unit ++ codes ": it is an alias of " ++ shown real ++ codes ".\n"
refusal_sentence refusals.TooMany = codes "them: they name more than 1,024 units.\n"
refusal_sentence (refusals.Clash path) = shown path ++ codes ": links with different targets are wanted there.\n"

-- what is wrong with an undo
abbrev pub undo_sentence : UndoRefusal → List ℕ
undo_sentence undos.NoSuchRow = codes ": there is no such row.\n"
undo_sentence undos.NotACommand = codes ": it is no accepted command.\n"
undo_sentence (undos.AlreadyUndone by) = numbered (codes ": it was undone by row ") by (codes ".\n")
undo_sentence (undos.Blocked by) = numbered (codes ": it is blocked by row ") by (codes ".\n")

-- what is wrong with a redo
abbrev pub redo_sentence : RedoRefusal → List ℕ
redo_sentence redos.NoSuchRow = codes ": there is no such row.\n"
redo_sentence redos.NotACommand = codes ": it is no accepted command.\n"
redo_sentence redos.NotUndone = codes ": it is not undone.\n"
redo_sentence (redos.Hindered by) = numbered (codes ": it is hindered by row ") by (codes ".\n")

-- what a request was to do
abbrev pub request_text : Request Action → List ℕ
request_text (Do action) = purpose action
request_text (Undo n) = numbered (codes "undo row ") n []
request_text (Redo n) = numbered (codes "redo row ") n []

-- what went wrong with a request, after what it was to do
abbrev pub failure_text : RowReply → List ℕ
failure_text (replies.Answered (answers.Done notices)) = []
failure_text (replies.Answered (answers.State state)) = []
failure_text (replies.Answered (answers.Name name)) = []
failure_text (replies.Answered (answers.Names names)) = []
failure_text (replies.Answered (answers.Refused refusal)) = refusal_sentence refusal
failure_text (replies.Undid n) = []
failure_text (replies.UndoRefused refusal) = undo_sentence refusal
failure_text (replies.Redid n) = []
failure_text (replies.RedoRefused refusal) = redo_sentence refusal

-- the sentence on a request that was refused
abbrev pub refused_line : Row Action → List ℕ
refused_line row = codes "Failed to " ++ request_text row.request ++ failure_text row.reply

-- what standard error has for a row: the words that were skipped, or why it was refused
abbrev pub messages_of : Row Action → RowReply → List ℕ
messages_of row (replies.Answered (answers.Done notices)) = flat_map notice_text (map.values notices)
messages_of row (replies.Answered (answers.State state)) = []
messages_of row (replies.Answered (answers.Name name)) = []
messages_of row (replies.Answered (answers.Names names)) = []
messages_of row (replies.Answered (answers.Refused refusal)) = refused_line row
messages_of row (replies.Undid n) = []
messages_of row (replies.UndoRefused refusal) = refused_line row
messages_of row (replies.Redid n) = []
messages_of row (replies.RedoRefused refusal) = refused_line row

abbrev pub row_messages : Row Action → List ℕ
row_messages row = messages_of row row.reply

-- the warning on a unit that does not exist
abbrev pub missing_text : List ℕ → List ℕ
missing_text name = shown name ++ codes " does not exist.\n"

-- a text as a line
abbrev pub line_of : List ℕ → List ℕ
line_of text = text ++ codes "\n"

-- what standard output has for a reply: the state, the name, or the names, one a line
abbrev pub answer_lines : RowReply → List ℕ
answer_lines (replies.Answered (answers.Done notices)) = []
answer_lines (replies.Answered (answers.State state)) = line_of (state_text state)
answer_lines (replies.Answered (answers.Name name)) = line_of name
answer_lines (replies.Answered (answers.Names names)) = flat_map line_of names
answer_lines (replies.Answered (answers.Refused refusal)) = []
answer_lines (replies.Undid n) = []
answer_lines (replies.UndoRefused refusal) = []
answer_lines (replies.Redid n) = []
answer_lines (replies.RedoRefused refusal) = []
