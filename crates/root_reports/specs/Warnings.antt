-- Which units of a call get a warning.
use Rattle.std.specs.Prelude.{ℕ, Bool, false, ◌&&◌, ◌||◌, List, Option, Some, None}
use Rattle.std.specs.List.{after_last, list_any}
use Rattle.std.specs.Str.{bytes_eq}
use Rattle.link_tree.specs.declared.change.Change.{Change}
use Rattle.link_tree.specs.declared.entry.Entry.{Entry}
use Rattle.link_tree.specs.declared.entry.Entry.TheVariants.{File, Link}
use Rattle.unit_paths.specs.Paths.{is_slash, name_at}
use Rattle.unit_script.specs.declared.action.Action.{Action}
use Rattle.unit_script.specs.declared.action.Action.TheVariants as actions

-- the units of a disable or an unmask, which may not exist
abbrev pub removed_units : Action → Option (List (List ℕ))
removed_units (actions.Disable disable) = Some disable.units
removed_units (actions.Unmask unmask) = Some unmask.units
removed_units other = None

-- the units of an enable or a reenable, which may ask for no links
abbrev pub enabled_units : Action → Option (List (List ℕ))
enabled_units (actions.Enable enable) = Some enable.units
enabled_units (actions.Reenable reenable) = Some reenable.units
enabled_units other = None

-- whether a target's last part is this name
abbrev pub leads_to : (name : List ℕ) → Entry → Bool
leads_to name (Link target) = bytes_eq (after_last is_slash target) name
leads_to name (File contents) = false

-- whether an entry has this name, or is a link to one that has it
abbrev pub is_of : (name path : List ℕ) → Entry → Bool
is_of name path entry = leads_to name entry || bytes_eq (name_at path) name

-- whether a change removes such an entry
abbrev pub removes : (name path : List ℕ) → (before after : Option Entry) → Bool
removes name path (Some entry) None = is_of name path entry
removes name path before after = false

abbrev pub is_removed : List Change → (name : List ℕ) → Bool
is_removed changes name = list_any (λ change. removes name change.path change.before change.after) changes
