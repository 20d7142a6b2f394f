-- The identity of a template, by whether the name with its default instance is a name.
use Rattle.std.proofs.Common.{◌≡◌, refl, ℕ, true, false, List, Option, Some, None, is_none, ap}
use Rattle.std.proofs.lemmas.Bool.{false_from_ne_true}
use Rattle.unit_name.specs.declared.kind.Kind.TheVariants.{Template}
use Rattle.unit_name.specs.Parts.{kind_of, IsUnitName}
use Rattle.unit_name.specs.Name.{instance_of, with_instance, name_fault, is_unit_name}
use Rattle.unit_name.proofs.Names.{no_fault_in_name, name_from_no_fault}
use Rattle.unit_file.specs.Install.{is_empty}
use Rattle.unit_file.specs.Identity.{identity_of}

none_from_is_none : {X : Type 0} (o : Option X) → is_none o ≡ true → o ≡ None
none_from_is_none None none = refl
none_from_is_none (Some x) none = absurd (cc)

pub identity-valid : (name default : List ℕ) → kind_of (instance_of name) ≡ Template → is_empty default ≡ false → IsUnitName (with_instance name default) → identity_of name (Some default) ≡ with_instance name default
identity-valid name default template full valid =
    let unit : is_unit_name (with_instance name default) ≡ true = ap is_none (no_fault_in_name (with_instance name default) valid) in
    rw (template, full, unit) refl

pub identity-invalid : (name default : List ℕ) → kind_of (instance_of name) ≡ Template → is_empty default ≡ false → ¬ IsUnitName (with_instance name default) → identity_of name (Some default) ≡ name
identity-invalid name default template full invalid =
    let none : is_unit_name (with_instance name default) ≡ false = false_from_ne_true (is_unit_name (with_instance name default)) (λ yes. invalid (name_from_no_fault (with_instance name default) (none_from_is_none (name_fault (with_instance name default)) yes))) in
    rw (template, full, none) refl
