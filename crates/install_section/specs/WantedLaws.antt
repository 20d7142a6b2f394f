-- Laws of wanted links, each the contract of a public function.
use Rattle.std.specs.Prelude.{◌≡◌, ◌≢◌, ℕ, ◌↔◌, ◌⊎◌, Bool, true, false, List, Contains, Some, is_some, Ok, Err}
use Rattle.std.specs.Ordering.{is_le}
use Rattle.std.specs.FinMap as map
use Rattle.unit_name.specs.declared.kind.Kind.TheVariants.{Instance}
use Rattle.unit_name.specs.Parts.{kind_of}
use Rattle.unit_name.specs.Name.{instance_of}
use Rattle.unit_file.specs.declared.notice.Notice.{Notice}
use Rattle.unit_file.specs.declared.notice.Reason.{Reason}
use Rattle.unit_file.specs.Notices.{notice_line}
use Rattle.unit_paths.specs.declared.place.Place.{Place}
use Rattle.unit_paths.specs.declared.place.Scope.{Scope}
use Rattle.unit_paths.specs.declared.slot.Dependency.{Dependency}
use Rattle.unit_paths.specs.declared.slot.Dependency.TheVariants.{Wants, Requires, Upholds}
use Rattle.unit_paths.specs.Places.{scope_place}
use Rattle.unit_paths.specs.Slots.{unit_slot, dependency_slot}
use Rattle.link_tree.specs.Trees.{Entries, path_cmp}
use Rattle.install_section.specs.declared.section.Section.{Section}
use Rattle.install_section.specs.declared.wish.LinkKey.{LinkKey}
use Rattle.install_section.specs.declared.wish.LinkKey.TheVariants.{WantedBy, RequiredBy, UpheldBy, Alias}
use Rattle.install_section.specs.declared.wish.Wish.TheVariants.{Skip}
use Rattle.install_section.specs.declared.wants.Wanted.{Wanted}
use Rattle.install_section.specs.declared.wants.WantedFault.TheVariants.{NeedsInstance, Clash}
use Rattle.install_section.specs.Words.{named_by, skipped}
use Rattle.install_section.specs.Sections.{section_of, identity_in}
use Rattle.unit_file.specs.Listed.{stands_for_instance}
use Rattle.install_section.specs.Wishes.{alias_meant, may_have, wish, words_for, notice_key}
use Rattle.install_section.specs.Wanted.{wanted}

-- A word of one of a unit's lists, as it is written.
abbrev pub HasWord : Entries → (unit : List ℕ) → LinkKey → (word : List ℕ) → Section → Type 0
HasWord t unit key word section = ((section_of unit).conclusion t ≡ Some section) × Contains (words_for key section.text) word

abbrev pub key_of : Dependency → LinkKey
key_of Wants = WantedBy
key_of Requires = RequiredBy
key_of Upholds = UpheldBy

-- A unit's section says that another unit wants, requires or upholds it.
abbrev pub IsListedBy : Entries → (unit : List ℕ) → Section → Dependency → (by : List ℕ) → Type 0
IsListedBy t unit section dependency by = (word : List ℕ) × HasWord t unit (key_of dependency) word section × (named_by (identity_in unit section) word ≡ Ok by)

-- First rule: a unit that is listed by another is linked under its own name, unless it stands for
-- its default instance.
abbrev pub IsListed : Entries → Place → (unit path file : List ℕ) → Type 0
IsListed t place unit path file =
    (section : Section) × (dependency : Dependency) × (by : List ℕ) × IsListedBy t unit section dependency by
    × (stands_for_instance by unit ≡ false) × (path ≡ dependency_slot place dependency by unit) × (file ≡ section.file)

-- Second rule: a template that stands for its default instance is linked under that instance's
-- name, if it has one.
abbrev pub HasInstanceListed : Entries → Place → (unit path file : List ℕ) → Type 0
HasInstanceListed t place unit path file =
    (section : Section) × (dependency : Dependency) × (by : List ℕ) × IsListedBy t unit section dependency by
    × (stands_for_instance by unit ≡ true) × (kind_of (instance_of (identity_in unit section)) ≡ Instance)
    × (path ≡ dependency_slot place dependency by (identity_in unit section)) × (file ≡ section.file)

-- Third rule: a unit is linked under each alias that it may have.
abbrev pub HasAlias : Entries → Place → (unit path file : List ℕ) → Type 0
HasAlias t place unit path file =
    (section : Section) × (word name alias : List ℕ) × HasWord t unit Alias word section × (named_by (identity_in unit section) word ≡ Ok name)
    × (alias_meant unit name ≡ Some alias) × (may_have unit alias ≡ true) × (path ≡ unit_slot place alias) × (file ≡ section.file)

-- A unit asks for a link at the path, to the file, by one of the rules.
abbrev pub AsksFor : Entries → Place → (unit path file : List ℕ) → Type 0
AsksFor t place unit path file = IsListed t place unit path file ⊎ (HasInstanceListed t place unit path file ⊎ HasAlias t place unit path file)

-- One of the units asks for it.
abbrev pub IsAskedFor : Entries → Place → (units : List (List ℕ)) → (path file : List ℕ) → Type 0
IsAskedFor t place units path file = (unit : List ℕ) × Contains units unit × AsksFor t place unit path file

-- A template would stand for its default instance, but has none.
abbrev pub LacksInstance : Entries → (unit : List ℕ) → Type 0
LacksInstance t unit =
    (section : Section) × (dependency : Dependency) × (by : List ℕ) × IsListedBy t unit section dependency by
    × (stands_for_instance by unit ≡ true) × (kind_of (instance_of (identity_in unit section)) ≢ Instance)

-- It is one of the units, and such words aren't left out.
abbrev pub NeedsName : Entries → (units : List (List ℕ)) → (skip : Bool) → (unit : List ℕ) → Type 0
NeedsName t units skip unit = (skip ≡ false) × Contains units unit × LacksInstance t unit

-- Links to two files are asked for at the path.
abbrev pub HasTwoTargets : Entries → Place → (units : List (List ℕ)) → (path : List ℕ) → Type 0
HasTwoTargets t place units path = (one other : List ℕ) × (one ≢ other) × IsAskedFor t place units path one × IsAskedFor t place units path other

-- A property holds for a text and for no text before it, in byte order.
abbrev pub IsLeast : (P : List ℕ → Type 0) → (text : List ℕ) → Type 0
IsLeast P text = P text × ((other : List ℕ) → P other → is_le (path_cmp text other) ≡ true)

-- The wanted links are those that are asked for, and no others.
abbrev pub LinksAreAskedFor : Type 0
LinksAreAskedFor = (units : List (List ℕ)) (scope : Scope) (skip : Bool) (t : Entries) (given : Wanted) → (wanted units scope skip).conclusion t ≡ Ok given
    → (path file : List ℕ) → (map.get given.links path ≡ Some file) ↔ IsAskedFor t (scope_place scope) units path file

-- A unit that needs an instance is reported exactly if there is one, and the least is reported.
abbrev pub NeedsLeastInstance : Type 0
NeedsLeastInstance = (units : List (List ℕ)) (scope : Scope) (skip : Bool) (t : Entries) (unit : List ℕ) →
    ((wanted units scope skip).conclusion t ≡ Err (NeedsInstance unit)) ↔ IsLeast (NeedsName t units skip) unit

-- If there are none, a path that is wanted with two targets is reported exactly if there is one,
-- and the least is reported.
abbrev pub ClashIsLeast : Type 0
ClashIsLeast = (units : List (List ℕ)) (scope : Scope) (skip : Bool) (t : Entries) (path : List ℕ) →
    ((wanted units scope skip).conclusion t ≡ Err (Clash path))
    ↔ (((unit : List ℕ) → ¬ NeedsName t units skip unit) × IsLeast (HasTwoTargets t (scope_place scope) units) path)

-- A word of a unit's lists asks for no link, for a reason other than a missing instance, and this
-- is its notice.
abbrev pub IsSkipped : Entries → Place → (unit : List ℕ) → Notice → Type 0
IsSkipped t place unit notice =
    (key : LinkKey) × (word : List ℕ) × (section : Section) × (reason : Reason) × HasWord t unit key word section
    × (wish place key unit (identity_in unit section) word ≡ Skip reason) × (notice ≡ skipped unit (notice_key key) word reason)

-- Each skipped word of each unit is reported, in a line of its own, and nothing else is.
pub record TellsOfSkipped (t : Entries) (place : Place) (units : List (List ℕ)) (given : Wanted) : Type 0 where
  pub all_told : (unit : List ℕ) (notice : Notice) → Contains units unit → IsSkipped t place unit notice → is_some (map.get given.notices (notice_line notice)) ≡ true
  pub only : (line : List ℕ) (notice : Notice) → map.get given.notices line ≡ Some notice
      → ((unit : List ℕ) × Contains units unit × IsSkipped t place unit notice) × (line ≡ notice_line notice)

abbrev pub NoticesAreOfSkippedWords : Type 0
NoticesAreOfSkippedWords = (units : List (List ℕ)) (scope : Scope) (skip : Bool) (t : Entries) (given : Wanted) → (wanted units scope skip).conclusion t ≡ Ok given
    → TellsOfSkipped t (scope_place scope) units given
