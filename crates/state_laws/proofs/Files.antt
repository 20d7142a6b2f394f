-- The file of a unit that is found under its own name, and what its section says.
use Rattle.std.proofs.Common.{◌≡◌, ◌≢◌, ℕ, Bool, true, false, List, All, Option, Some, None, refl, subst}
use Rattle.std.specs.Prelude.{if◌then◌else◌, ◌&&◌, not}
use Rattle.std.proofs.lemmas.Bool.{and_parts}
use Rattle.std.proofs.lemmas.List.Elements.{All-contains}
use Rattle.unit_name.specs.declared.kind.Kind.{Kind}
use Rattle.unit_name.specs.declared.kind.Kind.TheVariants.{Plain, Template, Instance}
use Rattle.unit_name.specs.Parts.{kind_of}
use Rattle.unit_name.specs.Name.{is_unit_name, instance_of, type_of, with_instance}
use Rattle.unit_file.specs.Identity.{is_template, identity_of}
use Rattle.unit_file.specs.Install.{is_empty}
use Rattle.unit_paths.specs.Paths.{is_path, name_at}
use Rattle.link_tree.specs.Trees.{Entries}
use Rattle.load_path.specs.declared.finding.Found.{Found}
use Rattle.load_path.specs.declared.finding.Found.TheVariants as founds
use Rattle.load_path.specs.Find.{find}
use Rattle.load_path.specs.RealNames.{is_same_type, by_kinds, real_name}
use Rattle.load_path.proofs.Files.{find-file}
use Rattle.install_section.specs.declared.section.Section.{Section}
use Rattle.install_section.specs.Closure.{IsUnit, Reached}
use Rattle.install_section.specs.Closure.Reached.{Given, Named}
use Rattle.install_section.specs.Sections.{section_by, section_of}
use Rattle.install_section.proofs.Least.{some_is}
use Rattle.state_laws.proofs.NotNull.{file_path}

-- units that are reached from units found under their own names are also found under theirs
pub reached_is_unit : (t : Entries) (units : List (List ℕ)) → All (IsUnit t) units → (unit : List ℕ) → Reached t units unit → IsUnit t unit
reached_is_unit t units all unit (Given name here) = All-contains (IsUnit t) units unit all here
reached_is_unit t units all unit (Named from name by names) = names.4

-- the name with which words are expanded is valid
pub identity_named : (unit : List ℕ) (default : Option (List ℕ)) → is_unit_name unit ≡ true → is_unit_name (identity_of unit default) ≡ true
identity_named unit None valid = valid
identity_named unit (Some default) valid = by_parts _ refl
  where
    by_parts : (b : Bool) → (is_template (kind_of (instance_of unit)) && not (is_empty default) && is_unit_name (with_instance unit default)) ≡ b
        → is_unit_name (if b then with_instance unit default else unit) ≡ true
    by_parts true is = (and_parts _ (is_unit_name (with_instance unit default)) is).1
    by_parts false is = valid

-- the file of a unit has the name of a unit
pub real_named : (name file real : List ℕ) → real_name name file ≡ Some real → is_unit_name file ≡ true
unfolding real_name
real_named name file real is = by_parts _ refl is
  where
    by_parts : (b : Bool) → (is_unit_name file && is_same_type (type_of name) (type_of file)) ≡ b
        → (if b then by_kinds (kind_of (instance_of name)) (kind_of (instance_of file)) name file else None) ≡ Some real → is_unit_name file ≡ true
    by_parts true both same = (and_parts (is_unit_name file) _ both).0
    by_parts false other same = cc

-- and if that is no instance, it is the unit's own name
by_kinds_is : (one other : Kind) (name file real : List ℕ) → one ≢ Instance → by_kinds one other name file ≡ Some real → file ≡ real
unfolding by_kinds
by_kinds_is Plain Plain name file real off is = some_is file real is
by_kinds_is Plain Template name file real off is = cc
by_kinds_is Plain Instance name file real off is = cc
by_kinds_is Template Plain name file real off is = cc
by_kinds_is Template Template name file real off is = some_is file real is
by_kinds_is Template Instance name file real off is = cc
by_kinds_is Instance other name file real off is = absurd (off refl)

pub real_is_file : (name file real : List ℕ) → kind_of (instance_of name) ≢ Instance → real_name name file ≡ Some real → file ≡ real
unfolding real_name
real_is_file name file real off is = by_parts (is_unit_name file && is_same_type (type_of name) (type_of file)) is
  where
    by_parts : (b : Bool) → (if b then by_kinds (kind_of (instance_of name)) (kind_of (instance_of file)) name file else None) ≡ Some real → file ≡ real
    by_parts true same = by_kinds_is (kind_of (instance_of name)) (kind_of (instance_of file)) name file real off same
    by_parts false same = cc

-- what is known about a unit's file, by its section
pub record IsFileOf (unit file : List ℕ) : Type 0 where
  pub path : is_path file ≡ true
  pub named : is_unit_name (name_at file) ≡ true
  pub own : kind_of (instance_of unit) ≢ Instance → name_at file ≡ unit

module _ (t : Entries) (unit : List ℕ) (valid : is_unit_name unit ≡ true) (is_unit : IsUnit t unit) (section : Section) (has : (section_of unit).conclusion t ≡ Some section) where
  by_found : (found : Found) → found ≡ founds.Unit unit is_unit.0 is_unit.1 → (section_by found).conclusion t ≡ Some section → is_unit.0 ≡ section.file
  by_found (founds.Unit real file place) is same = by_parts file refl same
    where
      by_parts : (its : List ℕ) → its ≡ file → (section_by (founds.Unit real its place)).conclusion t ≡ Some section → is_unit.0 ≡ section.file
      by_parts its at said = cc
  by_found founds.Missing is same = cc
  by_found (founds.Masked place) is same = cc
  by_found (founds.Dangling link) is same = cc

  file_is : is_unit.0 ≡ section.file
  unfolding section_of
  file_is = by_found ((find unit).conclusion t) is_unit.2 has

  pub file_of : IsFileOf unit section.file
  file_of =
      let real = (find-file unit t unit is_unit.0 is_unit.1 is_unit.2).1 in
      subst (IsFileOf unit) file_is (record {
        path = file_path t unit unit is_unit.0 is_unit.1 valid is_unit.2;
        named = real_named unit (name_at is_unit.0) unit real;
        own = λ off. real_is_file unit (name_at is_unit.0) unit off real;
      })
