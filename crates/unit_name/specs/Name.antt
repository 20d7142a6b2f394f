-- The parts of a name, read from its text, and what is wrong with a text that isn't a name.
use Rattle.std.specs.Prelude.{◌≡◌, ℕ, Bool, not, ◌==◌, nat_lt, if◌then◌else◌, List, [], ◌∷◌, ◌++◌, length, Option, Some, None, is_none, Result, Ok, Err, codes}
use Rattle.std.specs.List.{list_all, list_any, find, before_first, after_first, before_last, after_last}
use Rattle.std.specs.Str.{bytes_eq}
use Rattle.unit_name.specs.declared.kind.UnitType.{UnitType}
use Rattle.unit_name.specs.declared.kind.UnitType.TheVariants as types
use Rattle.unit_name.specs.declared.fault.NameFault.{NameFault}
use Rattle.unit_name.specs.declared.fault.NameFault.TheVariants.{TooLong, BadCharacter, NoPrefix, BadType}
use Rattle.unit_name.specs.declared.fault.NameError.{NameError}
use Rattle.unit_name.specs.declared.fault.NameError.TheVariants as errors
use Rattle.unit_name.specs.declared.fault.InstanceFault.{InstanceFault}
use Rattle.unit_name.specs.declared.fault.InstanceFault.TheVariants as instances
use Rattle.unit_name.specs.declared.fault.InstanceError.{InstanceError}
use Rattle.unit_name.specs.declared.fault.InstanceError.TheVariants as instance_errors
use Rattle.unit_name.specs.Parts.{is_at, is_name_byte, type_text, IsUnitName}
use Prim.Native.Char.{code}

abbrev pub is_dot : ℕ → Bool
is_dot b = b == code "."

-- what precedes the last dot; all of a text without a dot
unfoldable pub stem_of : List ℕ → List ℕ
stem_of text = if list_any is_dot text then before_last is_dot text else text

-- what follows the last dot; nothing in a text without a dot
unfoldable pub suffix_of : List ℕ → List ℕ
suffix_of text = if list_any is_dot text then after_last is_dot text else []

-- what precedes the first @ of the stem, or the whole stem
unfoldable pub prefix_of : List ℕ → List ℕ
prefix_of text = before_first is_at (stem_of text)

-- what follows the first @ of the stem
unfoldable pub instance_of : List ℕ → Option (List ℕ)
instance_of text = if list_any is_at (stem_of text) then Some (after_first is_at (stem_of text)) else None

abbrev pub unit_types : List UnitType
unit_types = types.Service ∷ types.Socket ∷ types.Device ∷ types.Mount ∷ types.Automount ∷ types.Swap ∷ types.Target ∷ types.Path ∷ types.Timer ∷ types.Slice ∷ types.Scope ∷ []

-- the type with a text
unfoldable pub type_named : List ℕ → Option UnitType
type_named text = find (λ unit_type. bytes_eq (type_text unit_type) text) unit_types

unfoldable pub type_of : List ℕ → Option UnitType
type_of text = type_named (suffix_of text)

-- the name with another instance
unfoldable pub with_instance : List ℕ → List ℕ → List ℕ
with_instance text instance = prefix_of text ++ codes "@" ++ instance ++ codes "." ++ suffix_of text

abbrev pub template_of : List ℕ → List ℕ
template_of text = with_instance text []

-- what is wrong with the parts of a text
unfoldable pub part_fault : List ℕ → Option NameFault
part_fault text =
    if length (prefix_of text) == 0 then Some NoPrefix
    else if is_none (type_of text) then Some BadType
    else None

-- What is wrong with a text: the first of these.
unfoldable pub name_fault : List ℕ → Option NameFault
name_fault text =
    if nat_lt 255 (length text) then Some TooLong
    else if not (list_all is_name_byte text) then Some BadCharacter
    else part_fault text

abbrev pub is_unit_name : List ℕ → Bool
is_unit_name text = is_none (name_fault text)

-- What is wrong with an instance for a name: the first of these.
unfoldable pub instance_fault : List ℕ → List ℕ → Option InstanceFault
instance_fault text instance =
    if nat_lt 255 (length (with_instance text instance)) then Some instances.TooLong
    else if not (list_all is_name_byte instance) then Some instances.BadCharacter
    else None

-- What `parse` returns. Memory may run out.
abbrev pub Parses : List ℕ → Result (List ℕ) NameError → Type 0
Parses text (Ok name) = (name ≡ text) × IsUnitName text
Parses text (Err (errors.Bad fault)) = (name_fault text ≡ Some fault) × ¬ IsUnitName text
Parses text (Err errors.OutOfMemory) = Unit {0}

-- What `with_instance` returns. Memory may run out.
abbrev pub TakesInstance : List ℕ → List ℕ → Result (List ℕ) InstanceError → Type 0
TakesInstance text instance (Ok name) = (name ≡ with_instance text instance) × IsUnitName name
TakesInstance text instance (Err (instance_errors.Bad fault)) = (instance_fault text instance ≡ Some fault) × ¬ IsUnitName (with_instance text instance)
TakesInstance text instance (Err instance_errors.OutOfMemory) = Unit {0}
