-- What a unit name is: systemd.unit(5), "Description".
use Rattle.std.specs.Prelude.{◌≡◌, ℕ, ◌<◌, ◌≤◌, Bool, true, false, ◌||◌, ◌==◌, List, [], ◌∷◌, ◌++◌, length, Option, Some, None, codes}
use Rattle.std.specs.Char.{is_ascii_alphanumeric}
use Rattle.std.specs.List.{list_all, list_any}
use Rattle.unit_name.specs.declared.kind.Kind.{Kind}
use Rattle.unit_name.specs.declared.kind.Kind.TheVariants.{Plain, Template, Instance}
use Rattle.unit_name.specs.declared.kind.UnitType.{UnitType}
use Rattle.unit_name.specs.declared.kind.UnitType.TheVariants as types
use Prim.Native.Char.{code}

abbrev pub is_at : ℕ → Bool
is_at b = b == code "@"

-- an ASCII letter or digit, or one of these
abbrev pub is_name_byte : ℕ → Bool
is_name_byte b = is_ascii_alphanumeric b || list_any (λ other. other == b) (codes ":-_.\\@")

-- the text of a type, which a name ends with
unfoldable pub type_text : UnitType → List ℕ
type_text types.Service = codes "service"
type_text types.Socket = codes "socket"
type_text types.Device = codes "device"
type_text types.Mount = codes "mount"
type_text types.Automount = codes "automount"
type_text types.Swap = codes "swap"
type_text types.Target = codes "target"
type_text types.Path = codes "path"
type_text types.Timer = codes "timer"
type_text types.Slice = codes "slice"
type_text types.Scope = codes "scope"

-- A name without an instance is plain; one whose instance is empty is a template.
abbrev pub kind_of : Option (List ℕ) → Kind
kind_of None = Plain
kind_of (Some []) = Template
kind_of (Some (b ∷ bs)) = Instance

-- The parts of a name, such as getty, tty1 and service in getty@tty1.service.
pub record Parts : Type 0 where
  pub prefix : List ℕ
  pub instance : Option (List ℕ)
  pub unit_type : UnitType

-- an instance follows an @
abbrev pub instance_spelling : Option (List ℕ) → List ℕ
instance_spelling None = []
instance_spelling (Some text) = codes "@" ++ text

abbrev pub spelling : Parts → List ℕ
spelling parts = parts.prefix ++ instance_spelling parts.instance ++ codes "." ++ type_text parts.unit_type

-- A text is the name with these parts.
pub record IsSpelledBy (text : List ℕ) (parts : Parts) : Type 0 where
  pub spelled : text ≡ spelling parts
  pub with_prefix : 0 < length parts.prefix
  pub first_at : list_any is_at parts.prefix ≡ false
  pub name_bytes : list_all is_name_byte text ≡ true
  pub short : length text ≤ 255

-- A unit name is a text that some parts make up.
abbrev pub IsUnitName : List ℕ → Type 0
IsUnitName text = (parts : Parts) × IsSpelledBy text parts
