-- The name under which a unit is listed in the directory of another, where a template represents
-- its default instance: systemd.unit(5), "[Install] Section Options", `WantedBy=` and
-- `DefaultInstance=`.
use Rattle.std.specs.Prelude.{ℕ, Bool, not, ◌&&◌, if◌then◌else◌, List, Option, Some, None}
use Rattle.unit_name.specs.declared.kind.Kind.{Kind}
use Rattle.unit_name.specs.declared.kind.Kind.TheVariants.{Instance}
use Rattle.unit_name.specs.Parts.{kind_of}
use Rattle.unit_name.specs.Name.{instance_of}
use Rattle.unit_file.specs.Identity.{is_template}

-- whether a name is that of a template
abbrev pub is_template_name : List ℕ → Bool
is_template_name name = is_template (kind_of (instance_of name))

-- the name, if it is that of an instance
abbrev pub as_instance : Kind → (name : List ℕ) → Option (List ℕ)
as_instance Instance name = Some name
as_instance other name = None

-- whether a unit that is listed represents its default instance: a template, listed by a unit that
-- isn't one
abbrev pub stands_for_instance : (by unit : List ℕ) → Bool
stands_for_instance by unit = is_template_name unit && not (is_template_name by)

-- The name of the link to a unit in another's directory: the unit's own, but for a template that
-- represents its default instance the name of that instance, if it has one.
unfoldable pub listed_name : (by unit identity : List ℕ) → Option (List ℕ)
listed_name by unit identity = if stands_for_instance by unit then as_instance (kind_of (instance_of identity)) identity else Some unit
