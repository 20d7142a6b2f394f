-- The identity of a unit, with which the words of its lists are expanded: systemd.unit(5),
-- "DefaultInstance=".
use Rattle.std.specs.Prelude.{ℕ, Bool, true, false, not, ◌&&◌, if◌then◌else◌, List, Option, Some, None}
use Rattle.unit_name.specs.declared.kind.Kind.{Kind}
use Rattle.unit_name.specs.declared.kind.Kind.TheVariants.{Plain, Template, Instance}
use Rattle.unit_name.specs.Parts.{kind_of}
use Rattle.unit_name.specs.Name.{instance_of, with_instance, is_unit_name}
use Rattle.unit_file.specs.Install.{is_empty}

abbrev pub is_template : Kind → Bool
is_template Plain = false
is_template Template = true
is_template Instance = false

-- A template whose default instance isn't empty and makes a valid name has that instance as its
-- identity. Any other unit is its own identity.
abbrev pub identity_of : List ℕ → Option (List ℕ) → List ℕ
identity_of name None = name
identity_of name (Some default) =
    if is_template (kind_of (instance_of name)) && not (is_empty default) && is_unit_name (with_instance name default) then with_instance name default
    else name
