-- Rows of a history that is kept with a root, as JSON.
use Rattle.std.specs.Prelude.{ℕ, true, List, Option, Some, None, codes, map}
use Rattle.unit_paths.specs.declared.place.Scope.{Scope}
use Rattle.unit_paths.specs.declared.place.Scope.TheVariants.{Etc, Run}
use Rattle.tree_access.specs.declared.key.Key.{Key}
use Rattle.tree_access.specs.declared.key.Key.TheVariants.{Cell, Marked, Presets, Links}
use Rattle.tree_access.specs.declared.reading.Observation.{Observation}
use Rattle.history.specs.declared.row.Row.{Row}
use Rattle.history.specs.declared.row.UndoRefusal.{UndoRefusal}
use Rattle.unit_script.specs.declared.action.Action.{Action}
use Rattle.unit_script.specs.Texts.{number_asked, shown_changes}
use Rattle.serde_json.specs.Data.{Data, null, string, array, object, Members}
use Rattle.serde_json.specs.View.{items_of}
use Rattle.root_json.specs.Objects.{◌with◌being◌, count, text_data}
use Rattle.root_json.specs.Changes.{changes_data}
use Rattle.root_json.specs.Answers.{kind, of_unit, of_path, undo_refusal_members, with_reply}
use Rattle.root_json.specs.Rows.{call_members}

-- which run a row is of: its time, who made it, and by which program
abbrev pub with_run : Members → (time login program : List ℕ) → Members
with_run ms time login program = ms
    with codes "time" being text_data time
    with codes "login" being text_data login
    with codes "program" being text_data program

-- the number of a row, or null if there is none
abbrev pub row_or_null : Option ℕ → Data
row_or_null None = null
row_or_null (Some n) = count n

-- what it changed, and the row that undid it
abbrev pub with_changes : Members → List (Row Action) → Row Action → Members
with_changes ms all row = ms
    with codes "changes" being changes_data (shown_changes all row.reply row.changes)
    with codes "undone_by" being row_or_null row.undone_by

-- a row among all, with its run and the words of its call
abbrev pub log_members : (time login program : List ℕ) → List (List ℕ) → List (Row Action) → ℕ → Row Action → Members
log_members time login program words all number row =
    with_changes (with_run (with_reply (call_members true None words number row.operator) (number_asked row.request) row.reply) time login program) all row

abbrev pub log_data : (time login program : List ℕ) → List (List ℕ) → List (Row Action) → ℕ → Row Action → Data
log_data time login program words all number row = object (log_members time login program words all number row)

abbrev pub scope_text : Scope → List ℕ
scope_text Etc = codes "etc"
scope_text Run = codes "run"

-- what a call looked at: a path, the links that belong to a unit, all presets, or all links of
-- dependencies
abbrev pub key_members : Key → Members
key_members (Cell path) = of_path (codes "path") path
key_members (Marked scope name) = of_unit (codes "links") name with codes "scope" being string (scope_text scope)
key_members Presets = kind (codes "presets")
key_members Links = kind (codes "dependencies")

abbrev pub key_data : Observation → Data
key_data observation = object (key_members observation.key)

abbrev pub keys_data : List Observation → Data
keys_data reading = array (items_of (map key_data reading))

-- rows, by their numbers
abbrev pub numbers_data : List ℕ → Data
numbers_data numbers = array (items_of (map count numbers))

-- why a row can't be undone, or null if it can
abbrev pub refusal_or_null : ℕ → Option UndoRefusal → Data
refusal_or_null n None = null
refusal_or_null n (Some refusal) = object (undo_refusal_members n refusal)

-- the same row with what it looked at, the rows that are undone together with it, and why it can't be
-- undone
abbrev pub shown_members : Members → ℕ → Row Action → List ℕ → Option UndoRefusal → Members
shown_members ms number row undo refusal = ms
    with codes "looked_at" being keys_data row.reading
    with codes "undo" being numbers_data undo
    with codes "undo_refusal" being refusal_or_null number refusal

abbrev pub shown_data : (time login program : List ℕ) → List (List ℕ) → List (Row Action) → ℕ → Row Action → List ℕ → Option UndoRefusal → Data
shown_data time login program words all number row undo refusal =
    object (shown_members (log_members time login program words all number row) number row undo refusal)
