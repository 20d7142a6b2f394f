-- Why a word of an [Install] list is skipped: systemd.unit(5), "[Install] Section Options".
use Rattle.std.specs.Prelude.{◌≡◌, ◌≢◌, ℕ, false, List, Some, None, Ok}
use Rattle.unit_name.specs.Name.{is_unit_name, instance_of, type_of}
use Rattle.unit_name.specs.Specifiers.{expansion}
use Rattle.unit_file.specs.declared.notice.Reason.{Reason}
use Rattle.unit_file.specs.declared.notice.Reason.TheVariants as reasons
use Rattle.unit_paths.specs.declared.place.Place.{Place}
use Rattle.link_tree.specs.Trees.{Entries}
use Rattle.load_path.specs.declared.finding.Found.{Found}
use Rattle.load_path.specs.declared.finding.Found.TheVariants as founds
use Rattle.load_path.specs.Find.{find}
use Rattle.load_path.specs.RealNames.{is_same_type}
use Rattle.install_section.specs.Wishes.{alias_meant, are_alike, has_aliases}
use Rattle.install_section.specs.Words.{named_by}

-- A word is no unit's name. It has a specifier that isn't known ("Specifiers"), or what it is after
-- its specifiers are replaced isn't a valid name ("Description"). They are replaced by the parts of
-- a name, the unit's identity.
pub data IsNoName (identity word : List ℕ) : Reason → Type 0 where
  UnknownSpecifier : expansion identity word ≡ None → IsNoName identity word reasons.BadSpecifier
  InvalidName : (text : List ℕ) → expansion identity word ≡ Some text → is_unit_name text ≡ false → IsNoName identity word reasons.BadName

-- A word is the name of what is found so.
abbrev pub Names : Entries → (identity word name : List ℕ) → Found → Type 0
Names t identity word name found = (named_by identity word ≡ Ok name) × ((find name).conclusion t ≡ found)

-- `Also=`: a word includes no unit. It is no unit's name; or there is nothing of the unit that it
-- names, or that is masked, or a link that leads to no unit file, or its own name is another one.
pub data IncludesNone (t : Entries) (identity word : List ℕ) : Reason → Type 0 where
  NoName : (reason : Reason) → IsNoName identity word reason → IncludesNone t identity word reason
  Missing : (name : List ℕ) → Names t identity word name founds.Missing → IncludesNone t identity word reasons.NotFound
  Masked : (name : List ℕ) (place : Place) → Names t identity word name (founds.Masked place) → IncludesNone t identity word reasons.Masked
  Dangling : (name link : List ℕ) → Names t identity word name (founds.Dangling link) → IncludesNone t identity word reasons.Dangling
  OtherName : (name real file : List ℕ) (place : Place) → Names t identity word name (founds.Unit real file place) → real ≢ name → IncludesNone t identity word reasons.IsAlias

-- A word of `Alias=` means this alias of a unit.
abbrev pub MeansAlias : (unit identity word alias : List ℕ) → Type 0
MeansAlias unit identity word alias = (name : List ℕ) × (named_by identity word ≡ Ok name) × (alias_meant unit name ≡ Some alias)

-- `Alias=`: a word gives no alias. It is no unit's name; or it is a template's, of which the
-- instance that the unit would have has no valid name; or the alias that it means has another type
-- than the unit; or units of that type have no aliases; or it is the unit's own name; or it is of
-- another kind: plain, a template, or an instance with this text.
pub data GivesNone (unit identity word : List ℕ) : Reason → Type 0 where
  NoName : (reason : Reason) → IsNoName identity word reason → GivesNone unit identity word reason
  NoInstance : (name : List ℕ) → named_by identity word ≡ Ok name → alias_meant unit name ≡ None → GivesNone unit identity word reasons.BadName
  OtherType : (alias : List ℕ) → MeansAlias unit identity word alias → is_same_type (type_of alias) (type_of unit) ≡ false → GivesNone unit identity word reasons.BadAlias
  NoAliases : (alias : List ℕ) → MeansAlias unit identity word alias → has_aliases (type_of unit) ≡ false → GivesNone unit identity word reasons.BadAlias
  OwnName : MeansAlias unit identity word unit → GivesNone unit identity word reasons.BadAlias
  OtherKind : (alias : List ℕ) → MeansAlias unit identity word alias → are_alike (instance_of alias) (instance_of unit) ≡ false → GivesNone unit identity word reasons.BadAlias
