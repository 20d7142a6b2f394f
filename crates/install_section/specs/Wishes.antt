-- Which link a word of an [Install] section asks for: systemd.unit(5), "[Install] Section Options",
-- `WantedBy=`, `RequiredBy=`, `UpheldBy=` and `Alias=`; "Description", on aliases and templates.
use Rattle.std.specs.Prelude.{ℕ, Bool, true, false, not, ◌&&◌, if◌then◌else◌, List, Option, Some, None, Result, Ok, Err}
use Rattle.std.specs.Str.{bytes_eq}
use Rattle.unit_name.specs.declared.kind.Kind.{Kind}
use Rattle.unit_name.specs.declared.kind.Kind.TheVariants.{Template, Instance}
use Rattle.unit_name.specs.declared.kind.UnitType.{UnitType}
use Rattle.unit_name.specs.declared.kind.UnitType.TheVariants.{Mount, Automount, Swap, Slice}
use Rattle.unit_name.specs.Parts.{kind_of}
use Rattle.unit_name.specs.Name.{instance_of, type_of}
use Rattle.unit_file.specs.declared.install.InstallText.{InstallText}
use Rattle.unit_file.specs.declared.notice.NoticeKey.{NoticeKey}
use Rattle.unit_file.specs.declared.notice.NoticeKey.TheVariants as keys
use Rattle.unit_file.specs.declared.notice.Reason.{Reason}
use Rattle.unit_file.specs.declared.notice.Reason.TheVariants.{BadName, BadAlias}
use Rattle.unit_file.specs.Listed.{listed_name}
use Rattle.unit_paths.specs.declared.place.Place.{Place}
use Rattle.unit_paths.specs.declared.slot.Dependency.{Dependency}
use Rattle.unit_paths.specs.declared.slot.Dependency.TheVariants.{Wants, Requires, Upholds}
use Rattle.unit_paths.specs.Slots.{unit_slot, dependency_slot}
use Rattle.load_path.specs.RealNames.{is_same_type, put_in}
use Rattle.install_section.specs.declared.wish.LinkKey.{LinkKey}
use Rattle.install_section.specs.declared.wish.LinkKey.TheVariants.{WantedBy, RequiredBy, UpheldBy, Alias}
use Rattle.install_section.specs.declared.wish.Wish.{Wish}
use Rattle.install_section.specs.declared.wish.Wish.TheVariants.{Link, Skip, NoInstance}
use Rattle.install_section.specs.Words.{named_by}

abbrev pub listed_under : Place → Dependency → (by : List ℕ) → (name : Option (List ℕ)) → Wish
listed_under place dependency by (Some name) = Link (dependency_slot place dependency by name)
listed_under place dependency by None = NoInstance

-- a word of `WantedBy=`, `RequiredBy=` or `UpheldBy=`
abbrev pub listing : Place → Dependency → (unit identity : List ℕ) → Result (List ℕ) Reason → Wish
listing place dependency unit identity (Ok by) = listed_under place dependency by (listed_name by unit identity)
listing place dependency unit identity (Err reason) = Skip reason

-- whether units of the type may have aliases
abbrev pub has_aliases : Option UnitType → Bool
has_aliases (Some Mount) = false
has_aliases (Some Automount) = false
has_aliases (Some Swap) = false
has_aliases (Some Slice) = false
has_aliases other = true

-- both plain, both templates, or both instances with the same instance name
abbrev pub are_alike : Option (List ℕ) → Option (List ℕ) → Bool
are_alike None None = true
are_alike (Some one) (Some other) = bytes_eq one other
are_alike one other = false

-- whether a unit may have the alias: another name of the same type and kind, and of a type that has
-- aliases
unfoldable pub may_have : (unit alias : List ℕ) → Bool
may_have unit alias = is_same_type (type_of alias) (type_of unit) && (has_aliases (type_of unit) && (not (bytes_eq alias unit) && are_alike (instance_of alias) (instance_of unit)))

-- The alias that a name means, by the kinds of unit and name: for an instance, the name of a
-- template means its own instance, if that is a valid name.
abbrev pub alias_by : (of its : Kind) → (unit name : List ℕ) → Option (List ℕ)
alias_by Instance Template unit name = put_in name (instance_of unit)
alias_by of its unit name = Some name

unfoldable pub alias_meant : (unit name : List ℕ) → Option (List ℕ)
alias_meant unit name = alias_by (kind_of (instance_of unit)) (kind_of (instance_of name)) unit name

abbrev pub aliased : Place → (unit : List ℕ) → (alias : Option (List ℕ)) → Wish
aliased place unit (Some alias) = if may_have unit alias then Link (unit_slot place alias) else Skip BadAlias
aliased place unit None = Skip BadName

-- a word of `Alias=`
abbrev pub aliasing : Place → (unit : List ℕ) → Result (List ℕ) Reason → Wish
aliasing place unit (Ok name) = aliased place unit (alias_meant unit name)
aliasing place unit (Err reason) = Skip reason

-- what a word of a unit's list asks for
abbrev pub wish : Place → LinkKey → (unit identity word : List ℕ) → Wish
wish place WantedBy unit identity word = listing place Wants unit identity (named_by identity word)
wish place RequiredBy unit identity word = listing place Requires unit identity (named_by identity word)
wish place UpheldBy unit identity word = listing place Upholds unit identity (named_by identity word)
wish place Alias unit identity word = aliasing place unit (named_by identity word)

-- the words of the list
abbrev pub words_for : LinkKey → InstallText → List (List ℕ)
words_for WantedBy text = text.wanted_by
words_for RequiredBy text = text.required_by
words_for UpheldBy text = text.upheld_by
words_for Alias text = text.alias

-- the key under which they are written
abbrev pub notice_key : LinkKey → NoticeKey
notice_key WantedBy = keys.WantedBy
notice_key RequiredBy = keys.RequiredBy
notice_key UpheldBy = keys.UpheldBy
notice_key Alias = keys.Alias
