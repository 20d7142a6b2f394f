-- Which rows concern a unit: the call names it, or one of the changes is at a path or at a link
-- whose target ends with its name.
use Rattle.std.specs.Prelude.{ℕ, Bool, false, ◌||◌, List, Option, Some, None}
use Rattle.std.specs.List.{list_any, after_last}
use Rattle.std.specs.Str.{bytes_eq}
use Rattle.unit_paths.specs.Paths.{is_slash, name_at}
use Rattle.link_tree.specs.declared.entry.Entry.{Entry}
use Rattle.link_tree.specs.declared.entry.Entry.TheVariants.{File, Link}
use Rattle.link_tree.specs.declared.change.Change.{Change}
use Rattle.history.specs.declared.row.Row.{Row}
use Rattle.history.specs.declared.row.Request.{Request}
use Rattle.history.specs.declared.row.Request.TheVariants.{Do, Undo, Redo}
use Rattle.history.specs.declared.row.RowReply.{RowReply}
use Rattle.history.specs.declared.row.RowReply.TheVariants.{Answered, Undid, UndoRefused, Redid, RedoRefused}
use Rattle.history.specs.Rows.{row_at}
use Rattle.unit_script.specs.declared.action.Action.{Action}
use Rattle.unit_script.specs.declared.action.Action.TheVariants.{Enable, Disable, Reenable, Preset, Mask, Unmask, LinkUnits, AddTo, SetDefault, PlaceEntry, RemoveEntry, IsEnabled, GetDefault, Dependencies}
use Rattle.unit_script.specs.Texts.{changes_at}

abbrev pub is_name : (unit name : List ℕ) → Bool
is_name unit name = bytes_eq name unit

-- whether a unit is among these names
abbrev pub is_among : (unit : List ℕ) → List (List ℕ) → Bool
is_among unit names = list_any (is_name unit) names

-- whether a path ends with its name
abbrev pub is_at : (unit path : List ℕ) → Bool
is_at unit path = is_name unit (name_at path)

-- whether a link leads to a path that ends with its name
abbrev pub leads_to : (unit : List ℕ) → Entry → Bool
leads_to unit (File contents) = false
leads_to unit (Link target) = is_name unit (after_last is_slash target)

abbrev pub side_leads_to : (unit : List ℕ) → Option Entry → Bool
side_leads_to unit None = false
side_leads_to unit (Some entry) = leads_to unit entry

-- whether a command or a question names it
abbrev pub is_named : (unit : List ℕ) → Action → Bool
is_named unit (Enable enable) = is_among unit enable.units
is_named unit (Disable disable) = is_among unit disable.units
is_named unit (Reenable reenable) = is_among unit reenable.units
is_named unit (Preset preset) = is_among unit preset.units
is_named unit (Mask mask) = is_among unit mask.units
is_named unit (Unmask unmask) = is_among unit unmask.units
is_named unit (LinkUnits link) = list_any (is_at unit) link.paths
is_named unit (AddTo add) = is_name unit add.target || is_among unit add.units
is_named unit (SetDefault set) = is_name unit set.unit
is_named unit (PlaceEntry place) = is_at unit place.path || leads_to unit place.entry
is_named unit (RemoveEntry remove) = is_at unit remove.path
is_named unit (IsEnabled question) = is_name unit question.unit
is_named unit (GetDefault question) = false
is_named unit (Dependencies question) = is_name unit question.unit

-- whether a call names it; an undo and a redo name a row, and no unit
abbrev pub is_called : (unit : List ℕ) → Request Action → Bool
is_called unit (Do action) = is_named unit action
is_called unit (Undo n) = false
is_called unit (Redo n) = false

abbrev pub is_changed : (unit : List ℕ) → Change → Bool
is_changed unit change = is_at unit change.path || (side_leads_to unit change.before || side_leads_to unit change.after)

-- The changes of a row. An undo and a redo have none of their own: theirs are those of the row that
-- they took back or made again.
abbrev pub row_changes : List (Row Action) → RowReply → List Change → List Change
row_changes rows (Answered answer) changes = changes
row_changes rows (Undid n) changes = changes_at (row_at rows n)
row_changes rows (UndoRefused refusal) changes = changes
row_changes rows (Redid n) changes = changes_at (row_at rows n)
row_changes rows (RedoRefused refusal) changes = changes

abbrev pub changes_of : List (Row Action) → Row Action → List Change
changes_of rows row = row_changes rows row.reply row.changes

abbrev pub concerns : (unit : List ℕ) → List (Row Action) → Row Action → Bool
concerns unit rows row = is_called unit row.request || list_any (is_changed unit) (changes_of rows row)
