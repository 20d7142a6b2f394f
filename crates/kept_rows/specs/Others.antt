-- What others did to a root since the last run, as calls of the operator `outside`: at a slot, an
-- entry is removed, as by rm(1), or placed, as by ln(1).
use Rattle.std.specs.Prelude.{◌≡◌, ℕ, true, List, [], ◌∷◌, ◌++◌, Option, Some, None, All, map as list_map, codes}
use Rattle.std.specs.List.{flat_map}
use Rattle.std.specs.FinMap as map
use Rattle.link_tree.specs.declared.change.Change.{Change}
use Rattle.link_tree.specs.declared.entry.Entry.{Entry}
use Rattle.unit_paths.specs.Slots.{is_slot}
use Rattle.link_tree.specs.Trees.{Entries, AreFrom, after_changes}
use Rattle.tree_steps.specs.Steps.{slot_changes_between}
use Rattle.footprint.specs.declared.answer.Answer.TheVariants.{Done}
use Rattle.history.specs.declared.row.Row.{Row}
use Rattle.history.specs.declared.row.Request.TheVariants.{Do}
use Rattle.history.specs.declared.row.RowReply.TheVariants.{Answered}
use Rattle.history.specs.Rows as histories
use Rattle.unit_script.specs.declared.action.Action.{Action}
use Rattle.unit_script.specs.declared.action.Action.TheVariants.{PlaceEntry, RemoveEntry}
use Rattle.unit_script.specs.declared.call.Call.{Call}
use Rattle.unit_script.specs.Actions.{asks, meaning}
use Rattle.unit_script.specs.Machine.{asked, replay}

-- the operator of these calls
abbrev pub outside : List ℕ
outside = codes "outside"

abbrev pub removal : List ℕ → Call
removal path = record { operator = outside; request = Do (RemoveEntry (record { path = path })) }

abbrev pub placement : List ℕ → Entry → Call
placement path entry =
    record { operator = outside; request = Do (PlaceEntry (record { path = path; entry = entry })) }

-- the calls that replace one entry at a path, or none, by another: the old one is removed first
abbrev pub calls_at : List ℕ → (before after : Option Entry) → List Call
calls_at path None None = []
calls_at path (Some old) None = removal path ∷ []
calls_at path None (Some new) = placement path new ∷ []
calls_at path (Some old) (Some new) = removal path ∷ placement path new ∷ []

abbrev pub calls_of_change : Change → List Call
calls_of_change change = calls_at change.path change.before change.after

-- the calls that make these changes, in order
abbrev pub calls_of_others : List Change → List Call
calls_of_others changes = flat_map calls_of_change changes

-- the rows once these calls are made as well
abbrev pub rows_with : Entries → List (Row Action) → List Call → List (Row Action)
rows_with first rows calls = histories.run asks meaning first rows (list_map asked calls)

-- the rows once it is noticed that the root is as captured
abbrev pub rows_with_others : Entries → List (Row Action) → (captured : Entries) → List (Row Action)
rows_with_others first rows captured =
    rows_with first rows (calls_of_others (slot_changes_between (replay first rows) captured))

-- A row of others: its command was accepted without a notice, and it isn't undone.
abbrev pub IsOfOthers : Row Action → Type 0
IsOfOthers row =
    (row.operator ≡ outside) × (row.reply ≡ Answered (Done map.empty)) × (row.undone_by ≡ None)

-- These calls make rows of others after the rows that there are, and these lead to the tree.
abbrev pub LeadTo : Entries → List (Row Action) → List Call → Entries → Type 0
LeadTo first rows calls tree = (more : List (Row Action)) × (rows_with first rows calls ≡ rows ++ more)
    × All IsOfOthers more × (replay first (rows ++ more) ≡ tree)

-- Whatever the rows are, these calls make these changes, if they are at slots, and from what the
-- rows leave.
abbrev pub MakeChanges : List Change → List Call → Type 0
MakeChanges changes calls = (first : Entries) (rows : List (Row Action))
    → AreFrom (replay first rows) changes → All (λ change. is_slot change.path ≡ true) changes
    → LeadTo first rows calls (after_changes changes (replay first rows))

-- a tree with the slots of another
abbrev pub with_slots_of : Entries → (captured : Entries) → Entries
with_slots_of left captured = after_changes (slot_changes_between left captured) left
