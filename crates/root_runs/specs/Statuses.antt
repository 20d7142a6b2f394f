-- What a list of replies means for the exit status.
use Rattle.std.specs.Prelude.{ℕ, Bool, true, false, if◌then◌else◌, List, Option, Some, None}
use Rattle.std.specs.List.{list_any}
use Rattle.std.specs.Option.{option_map_or}
use Rattle.footprint.specs.declared.answer.Answer.TheVariants as answers
use Rattle.footprint.specs.declared.answer.StateWord.{StateWord}
use Rattle.footprint.specs.declared.answer.StateWord.TheVariants as states
use Rattle.footprint.specs.Operations as operations
use Rattle.history.specs.declared.row.Row.{Row}
use Rattle.history.specs.declared.row.RowReply.{RowReply}
use Rattle.history.specs.declared.row.RowReply.TheVariants as replies
use Rattle.unit_script.specs.declared.action.Action.{Action}
use Rattle.unit_script.specs.Texts.{is_success}

-- whether a reply is the refusal of an operation, of an undo or of a redo
abbrev pub is_refused : RowReply → Bool
is_refused (replies.Answered answer) = operations.is_refused answer
is_refused (replies.Undid n) = false
is_refused (replies.UndoRefused refusal) = true
is_refused (replies.Redid n) = false
is_refused (replies.RedoRefused refusal) = true

-- whether a unit with this state exists
abbrev pub is_state_found : StateWord → Bool
is_state_found states.NotFound = false
is_state_found states.Masked = true
is_state_found states.MaskedRuntime = true
is_state_found states.Alias = true
is_state_found states.Enabled = true
is_state_found states.EnabledRuntime = true
is_state_found states.Linked = true
is_state_found states.LinkedRuntime = true
is_state_found states.Static = true
is_state_found states.Indirect = true
is_state_found states.Disabled = true

-- the state that a reply is, if it is one
abbrev pub state_of : RowReply → Option StateWord
state_of (replies.Answered (answers.Done notices)) = None
state_of (replies.Answered (answers.State state)) = Some state
state_of (replies.Answered (answers.Name name)) = None
state_of (replies.Answered (answers.Names names)) = None
state_of (replies.Answered (answers.Refused refusal)) = None
state_of (replies.Undid n) = None
state_of (replies.UndoRefused refusal) = None
state_of (replies.Redid n) = None
state_of (replies.RedoRefused refusal) = None

-- whether a reply is the state of a unit that is enabled, and of one that exists
abbrev pub is_enabled : RowReply → Bool
is_enabled reply = option_map_or is_success (state_of reply) false

abbrev pub is_found : RowReply → Bool
is_found reply = option_map_or is_state_found (state_of reply) false

-- whether a row was refused
abbrev pub is_refused_row : Row Action → Bool
is_refused_row row = is_refused row.reply

-- whether a row is the state of a unit that is enabled, and of one that exists
abbrev pub is_enabled_row : Row Action → Bool
is_enabled_row row = is_enabled row.reply

abbrev pub is_found_row : Row Action → Bool
is_found_row row = is_found row.reply

-- The status of is-enabled, by the rows of its questions: 0 if one of the units is enabled, 4 if
-- none exists, else 1. systemctl(1), is-enabled.
abbrev pub enabled_status : List (Row Action) → ℕ
enabled_status rows =
    if list_any is_enabled_row rows then 0
    else if list_any is_found_row rows then 1
    else 4
