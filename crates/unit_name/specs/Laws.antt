-- Laws of names, each the contract of a public function.
use Rattle.std.specs.Prelude.{◌≡◌, ℕ, List, Some, None, ◌↔◌}
use Rattle.unit_name.specs.Parts.{Parts, IsSpelledBy, IsUnitName}
use Rattle.unit_name.specs.Name.{prefix_of, instance_of, type_of, template_of, with_instance, name_fault}

-- The parts of a name are those that are read from its text.
abbrev pub PartsAreRead : Type 0
PartsAreRead = (text : List ℕ) (parts : Parts) → IsSpelledBy text parts → (prefix_of text ≡ parts.prefix) × (instance_of text ≡ parts.instance) × (type_of text ≡ Some parts.unit_type)

-- So no other parts make it up.
abbrev pub PartsAreUnique : Type 0
PartsAreUnique = (text : List ℕ) (parts others : Parts) → IsSpelledBy text parts → IsSpelledBy text others → parts ≡ others

-- A name has no fault, and every other text has one.
abbrev pub NamesHaveNoFault : Type 0
NamesHaveNoFault = (text : List ℕ) → (name_fault text ≡ None) ↔ IsUnitName text

-- A name's instance is the one that it was given, and the rest of the name is unchanged.
abbrev pub InstanceIsSet : Type 0
InstanceIsSet = (text instance : List ℕ) → IsUnitName text → (instance_of (with_instance text instance) ≡ Some instance) × (prefix_of (with_instance text instance) ≡ prefix_of text) × (type_of (with_instance text instance) ≡ type_of text)

-- An instance of its own template is itself, and all instances of a template have it as their
-- template.
abbrev pub TemplateIsShared : Type 0
TemplateIsShared = (text instance : List ℕ) → IsUnitName text → (instance_of text ≡ Some instance → with_instance (template_of text) instance ≡ text) × (template_of (with_instance text instance) ≡ template_of text)
