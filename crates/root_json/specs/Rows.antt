-- Rows as JSON.
use Rattle.std.specs.Prelude.{ℕ, Bool, List, [], ◌∷◌, Option, Some, None, codes}
use Rattle.history.specs.declared.row.Row.{Row}
use Rattle.unit_script.specs.declared.action.Action.{Action}
use Rattle.unit_script.specs.Texts.{number_asked, shown_changes}
use Rattle.serde_json.specs.Data.{Data, boolean, object, Members, no_members}
use Rattle.root_json.specs.Objects.{◌with◌being◌, count, text_data, texts_data}
use Rattle.root_json.specs.Changes.{changes_data}
use Rattle.root_json.specs.Answers.{with_reply}

-- the number of a line, if it is known
abbrev pub with_line : Members → Option ℕ → Members
with_line ms None = ms
with_line ms (Some line) = ms with codes "line" being count line

-- the words of a call, if there are any
abbrev pub with_words : Members → List (List ℕ) → Members
with_words ms [] = ms
with_words ms (word ∷ words) = ms with codes "call" being texts_data (word ∷ words)

-- whose call it is, where it is written, and whether what the run changes was made
abbrev pub call_members : Bool → Option ℕ → List (List ℕ) → ℕ → List ℕ → Members
call_members made line words number operator = with_words (with_line (no_members
    with codes "row" being count number
    with codes "operator" being text_data operator
    with codes "made" being boolean made) line) words

-- A row among all, with what it was answered and what it changed: an accepted undo has the inverse
-- of the changes of the row that it names, and an accepted redo has these changes as they are.
abbrev pub row_data : Bool → Option ℕ → List (List ℕ) → List (Row Action) → ℕ → Row Action → Data
row_data made line words all number row = object (
    with_reply (call_members made line words number row.operator) (number_asked row.request) row.reply
    with codes "changes" being changes_data (shown_changes all row.reply row.changes))
