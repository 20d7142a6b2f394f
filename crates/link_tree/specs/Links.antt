-- Links: which lead to /dev/null, and which belong to a name. systemctl(1), mask and disable.
use Rattle.std.specs.Prelude.{ℕ, Bool, true, false, not, ◌&&◌, ◌||◌, List, Option, Some, None}
use Rattle.std.specs.List.{after_last}
use Rattle.std.specs.Str.{bytes_eq}
use Rattle.unit_name.specs.declared.kind.Kind.{Kind}
use Rattle.unit_name.specs.declared.kind.Kind.TheVariants.{Plain, Template, Instance}
use Rattle.unit_name.specs.Parts.{kind_of}
use Rattle.unit_name.specs.Name.{instance_of}
use Rattle.link_tree.specs.declared.entry.Entry.{Entry}
use Rattle.link_tree.specs.declared.entry.Entry.TheVariants.{File, Link}
use Rattle.unit_paths.specs.declared.place.Scope.{Scope}
use Rattle.unit_paths.specs.declared.place.Scope.TheVariants.{Etc, Run}
use Rattle.unit_paths.specs.declared.slot.Slot.{Slot}
use Rattle.unit_paths.specs.Paths.{is_slash, name_at}
use Rattle.unit_paths.specs.Canonical.{is_null_target}
use Rattle.unit_paths.specs.Slots.{slot_of}
use Rattle.unit_paths.specs.Kinds.{scope_of}

-- whether an entry at a path is a link to /dev/null
abbrev pub is_null_link : List ℕ → Entry → Bool
is_null_link path (File contents) = false
is_null_link path (Link target) = is_null_target path target

-- whether two scopes are equal
abbrev pub is_scope : Scope → Option Scope → Bool
is_scope scope None = false
is_scope Etc (Some Etc) = true
is_scope Etc (Some Run) = false
is_scope Run (Some Etc) = false
is_scope Run (Some Run) = true

-- the slots of units and of dependencies in a scope
abbrev pub is_of_scope : Scope → Option Slot → Bool
is_of_scope scope slot = is_scope scope (scope_of slot)

abbrev pub is_instance : Kind → Bool
is_instance Plain = false
is_instance Template = false
is_instance Instance = true

-- a link of this name, or one whose target ends with this name after its last slash, unless the
-- name is an instance's
abbrev pub is_named : (name path target : List ℕ) → Bool
is_named name path target = bytes_eq (name_at path) name || (not (is_instance (kind_of (instance_of name))) && bytes_eq (after_last is_slash target) name)

-- A link of a scope belongs to its own name and to the one at the end of its target; a link to
-- /dev/null belongs to no name.
unfoldable pub belongs : Scope → (name path : List ℕ) → Entry → Bool
belongs scope name path (File contents) = false
belongs scope name path (Link target) = is_of_scope scope (slot_of path) && not (is_null_target path target) && is_named name path target
