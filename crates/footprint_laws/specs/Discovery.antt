-- The order in which a closure looks units up, also if it is refused: the given units, each once;
-- then, unit after unit in that order, itself and the names that the words of its `Also=` give. A
-- unit that isn't there yet is added at the end, and the find that gives one too many is the last.
use Rattle.std.specs.Prelude.{◌≡◌, ℕ, ◌+◌, ◌↔◌, List, [], ◌∷◌, Contains, Option, Some, None, Ok, slice_get}
use Rattle.link_tree.specs.Trees.{Entries}
use Rattle.install_section.specs.declared.section.Section.{Section}
use Rattle.install_section.specs.Closure.{IsUnit, joined, all_joined, closure}
use Rattle.install_section.specs.Sections.{identity_in, section_of}
use Rattle.install_section.specs.Words.{named_by}
use Rattle.footprint_laws.specs.Sets.{IsLookedUp}

-- the words of a unit's `Also=`, and the name with which they are expanded
abbrev pub also_of : Option Section → List (List ℕ)
also_of None = []
also_of (Some section) = section.text.also

abbrev pub identity_by : (unit : List ℕ) → Option Section → List ℕ
identity_by unit None = unit
identity_by unit (Some section) = identity_in unit section

-- A word leaves more units: one that is found under the name that it gives joins them, unless it is
-- there already or they would be too many; any other word leaves them as they are.
pub data WordLeaves (t : Entries) (identity word : List ℕ) (units : List (List ℕ)) : List (List ℕ) → Type 0 where
  Joins : (name : List ℕ) (more : List (List ℕ)) → named_by identity word ≡ Ok name → IsUnit t name → joined units name ≡ Ok more → WordLeaves t identity word units more
  Skips : ((name : List ℕ) → named_by identity word ≡ Ok name → IsUnit t name → ⊥) → WordLeaves t identity word units units

-- one word after another
pub data WordsLeave (t : Entries) (identity : List ℕ) : (words units more : List (List ℕ)) → Type 0 where
  NoWord : (units : List (List ℕ)) → WordsLeave t identity [] units units
  OneWord : (word : List ℕ) (words units mid more : List (List ℕ)) → WordLeaves t identity word units mid → WordsLeave t identity words mid more → WordsLeave t identity (word ∷ words) units more

-- A name that one of the words gives is looked up at a path; all words before it leave units.
pub data WordsLook (t : Entries) (identity : List ℕ) (path : List ℕ) : (words units : List (List ℕ)) → Type 0 where
  Now : (word name : List ℕ) (words units : List (List ℕ)) → named_by identity word ≡ Ok name → IsLookedUp t name path → WordsLook t identity path (word ∷ words) units
  Later : (word : List ℕ) (words units mid : List (List ℕ)) → WordLeaves t identity word units mid → WordsLook t identity path words mid → WordsLook t identity path (word ∷ words) units

-- A unit at this place or a later one is looked up at a path, or a name that one of its words
-- gives.
pub data UnitsLook (t : Entries) (path : List ℕ) : (units : List (List ℕ)) → (place : ℕ) → Type 0 where
  Itself : (unit : List ℕ) (units : List (List ℕ)) (place : ℕ) → slice_get units place ≡ Some unit → IsLookedUp t unit path → UnitsLook t path units place
  ItsWord : (unit : List ℕ) (section : Option Section) (units : List (List ℕ)) (place : ℕ) → slice_get units place ≡ Some unit → (section_of unit).conclusion t ≡ section
      → WordsLook t (identity_by unit section) path (also_of section) units → UnitsLook t path units place
  Behind : (unit : List ℕ) (section : Option Section) (units more : List (List ℕ)) (place : ℕ) → slice_get units place ≡ Some unit → (section_of unit).conclusion t ≡ section
      → WordsLeave t (identity_by unit section) (also_of section) units more → UnitsLook t path more (place + 1) → UnitsLook t path units place

-- The given units aren't too many, and from the first of them on a path is looked at.
abbrev pub IsDiscoveredAt : (given : List (List ℕ)) → Entries → (path : List ℕ) → Type 0
IsDiscoveredAt given t path = (units : List (List ℕ)) × (all_joined given [] ≡ Ok units) × UnitsLook t path units 0

-- A closure looks at exactly these paths, whether it is refused or not.
abbrev pub ClosureLooksInOrder : Type 0
ClosureLooksInOrder = (given : List (List ℕ)) (t : Entries) (path : List ℕ) → Contains ((closure given).cells t) path ↔ IsDiscoveredAt given t path
