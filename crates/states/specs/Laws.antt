-- When each word is answered, as the contract of a public function: systemctl(1), "is-enabled".
use Rattle.std.specs.Prelude.{◌≡◌, ◌≢◌, ℕ, ◌↔◌, Bool, true, false, List, Some}
use Rattle.std.specs.FinMap as map
use Rattle.unit_paths.specs.declared.place.Place.{Place}
use Rattle.unit_paths.specs.declared.place.Place.TheVariants as places
use Rattle.unit_paths.specs.declared.place.Scope.{Scope}
use Rattle.unit_paths.specs.declared.place.Scope.TheVariants.{Etc, Run}
use Rattle.unit_paths.specs.Places.{scope_place}
use Rattle.unit_paths.specs.Slots.{unit_slot, slot_of}
use Rattle.unit_paths.specs.Kinds.{is_unit_slot}
use Rattle.link_tree.specs.declared.entry.Entry.{Entry}
use Rattle.link_tree.specs.Links.{belongs}
use Rattle.link_tree.specs.Trees.{Entries}
use Rattle.load_path.specs.declared.finding.Found.{Found}
use Rattle.load_path.specs.declared.finding.Found.TheVariants as founds
use Rattle.load_path.specs.Find.{find}
use Rattle.install_section.specs.declared.section.Section.{Section}
use Rattle.install_section.specs.Closure.{IsUnit}
use Rattle.install_section.specs.Sections.{section_of, is_empty}
use Rattle.footprint.specs.declared.answer.StateWord.{StateWord}
use Rattle.footprint.specs.declared.answer.StateWord.TheVariants as words
use Rattle.states.specs.IsEnabled.{asks_for_none, state_word}

-- What a name is looked up as.
abbrev pub IsFound : Entries → (name : List ℕ) → Found → Type 0
IsFound t name found = (find name).conclusion t ≡ found

-- A link of a scope belongs to a unit, at a path other than that of the unit's own name.
abbrev pub IsLinkedIn : Scope → Entries → (unit : List ℕ) → Type 0
IsLinkedIn scope t unit =
    (path : List ℕ) × (entry : Entry) × (map.get t path ≡ Some entry) × (belongs scope unit path entry ≡ true) × (path ≢ unit_slot (scope_place scope) unit)

-- There is no such link, in either scope.
abbrev pub IsFree : Entries → (unit : List ℕ) → Type 0
IsFree t unit = ¬ IsLinkedIn Etc t unit × ¬ IsLinkedIn Run t unit

-- A unit has its own name, and its file is in one of the four unit directories (or in none of
-- them).
abbrev pub LiesInside : (inside : Bool) → Entries → (unit : List ℕ) → Place → Type 0
LiesInside inside t unit place = (file : List ℕ) × IsFound t unit (founds.Unit unit file place) × (is_unit_slot (slot_of file) ≡ inside)

-- A unit has this section.
abbrev pub HasSection : Entries → (unit : List ℕ) → Section → Type 0
HasSection t unit section = (section_of unit).conclusion t ≡ Some section

-- Which word is answered for a name.
pub data Tells (t : Entries) (name : List ℕ) : StateWord → Type 0 where
  Missing : IsFound t name founds.Missing → Tells t name words.NotFound
  Dangling : (link : List ℕ) → IsFound t name (founds.Dangling link) → Tells t name words.NotFound
  MaskedInRun : IsFound t name (founds.Masked places.Run) → Tells t name words.MaskedRuntime
  MaskedElsewhere : (place : Place) → IsFound t name (founds.Masked place) → place ≢ places.Run → Tells t name words.Masked
  AnotherName : (real file : List ℕ) (place : Place) → IsFound t name (founds.Unit real file place) → real ≢ name → Tells t name words.Alias
  LinkedInEtc : IsUnit t name → IsLinkedIn Etc t name → Tells t name words.Enabled
  LinkedInRun : IsUnit t name → ¬ IsLinkedIn Etc t name → IsLinkedIn Run t name → Tells t name words.EnabledRuntime
  OutsideFoundInRun : LiesInside false t name places.Run → IsFree t name → Tells t name words.LinkedRuntime
  OutsideFoundElsewhere : (place : Place) → LiesInside false t name place → place ≢ places.Run → IsFree t name → Tells t name words.Linked
  NothingListed : (place : Place) → LiesInside true t name place → IsFree t name → ((section : Section) → HasSection t name section → is_empty section ≡ true) → Tells t name words.Static
  UnitsListedAlone : (place : Place) (section : Section) → LiesInside true t name place → IsFree t name
      → HasSection t name section → is_empty section ≡ false → asks_for_none section ≡ true → Tells t name words.Indirect
  LinksListed : (place : Place) (section : Section) → LiesInside true t name place → IsFree t name
      → HasSection t name section → is_empty section ≡ false → asks_for_none section ≡ false → Tells t name words.Disabled

-- Each word is answered exactly if it applies.
abbrev pub WordsAreTold : Type 0
WordsAreTold = (name : List ℕ) (t : Entries) (word : StateWord) → ((state_word name).conclusion t ≡ word) ↔ Tells t name word
