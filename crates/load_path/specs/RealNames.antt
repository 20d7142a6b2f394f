-- The name that a unit has, from the name of its file: systemd.unit(5), "Description", on aliases
-- and templates.
use Rattle.std.specs.Prelude.{ℕ, Bool, false, ◌&&◌, if◌then◌else◌, List, Option, Some, None}
use Rattle.std.specs.Str.{bytes_eq}
use Rattle.unit_name.specs.declared.kind.Kind.{Kind}
use Rattle.unit_name.specs.declared.kind.Kind.TheVariants.{Plain, Template, Instance}
use Rattle.unit_name.specs.declared.kind.UnitType.{UnitType}
use Rattle.unit_name.specs.Parts.{kind_of, type_text}
use Rattle.unit_name.specs.Name.{is_unit_name, instance_of, type_of, with_instance}

-- both are types, and they are the same
abbrev pub is_same_type : Option UnitType → Option UnitType → Bool
is_same_type (Some one) (Some other) = bytes_eq (type_text one) (type_text other)
is_same_type one other = false

-- both have an instance, and these are the same
abbrev pub is_same_instance : Option (List ℕ) → Option (List ℕ) → Bool
is_same_instance (Some one) (Some other) = bytes_eq one other
is_same_instance one other = false

-- the text, if it is a unit name
abbrev pub named : List ℕ → Option (List ℕ)
named text = if is_unit_name text then Some text else None

-- a template with an instance put in
abbrev pub put_in : List ℕ → Option (List ℕ) → Option (List ℕ)
put_in template (Some instance) = named (with_instance template instance)
put_in template None = None

-- A name that is looked up leads to a file with a name: the result by the kinds of these two.
unfoldable pub by_kinds : Kind → Kind → (name file : List ℕ) → Option (List ℕ)
by_kinds Plain Plain name file = Some file
by_kinds Template Template name file = Some file
by_kinds Instance Template name file = put_in file (instance_of name)
by_kinds Instance Instance name file = if is_same_instance (instance_of name) (instance_of file) then Some file else None
by_kinds one other name file = None

-- The name of the unit whose file has a name; both must have the same type.
unfoldable pub real_name : (name file : List ℕ) → Option (List ℕ)
real_name name file =
    if is_unit_name file && is_same_type (type_of name) (type_of file)
    then by_kinds (kind_of (instance_of name)) (kind_of (instance_of file)) name file
    else None
