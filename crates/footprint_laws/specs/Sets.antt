-- Which keys an operation looks at: words for the sets of them.
use Rattle.std.specs.Prelude.{◌≡◌, ℕ, List, [], ◌∷◌, ◌++◌, All, Contains, Ok}
use Rattle.link_tree.specs.Trees.{Entries}
use Rattle.load_path.specs.Find.{find}
use Rattle.install_section.specs.declared.section.Section.{Section}
use Rattle.install_section.specs.Closure.{HasWord}
use Rattle.install_section.specs.Sections.{identity_in}
use Rattle.install_section.specs.Words.{named_by}
use Rattle.tree_access.specs.declared.key.Key.{Key}
use Rattle.footprint.specs.Inquiry.{Inquiry}
use Rattle.footprint.specs.Operations.{Effect, outcome_of}
use Rattle.tree_access.specs.Placing.{Placed, placed_in}
use Rattle.tree_access.specs.Readings.{keys_of}
use Rattle.footprint.specs.Steps.{Step}
use Rattle.footprint.specs.Units.{IsFound}
use Rattle.install_commands.specs.Laws.{GoesWith}

-- An operation looks at a key of a tree: its reading has it.
abbrev pub LooksAt : {O : Type 0} → (O → Inquiry Effect) → O → Entries → Key → Type 0
LooksAt meaning c t key = Contains (keys_of (outcome_of meaning c t).reading) key

-- It is one of these, and all before it pass.
abbrev pub IsUpTo : {X : Type 0} → (Passes : X → Type 0) → (all : List X) → X → Type 0
IsUpTo {X} Passes all one = (before after : List X) × (all ≡ before ++ one ∷ after) × All Passes before

-- A name is looked up at a path: a slot of it if there is nothing at those before, or a path to
-- which the first entry leads. `FindLooksAlongChain` of `load_path` says this of the same cells.
abbrev pub IsLookedUp : Entries → (name path : List ℕ) → Type 0
IsLookedUp t name path = Contains ((find name).cells t) path

-- A word of a unit's `Also=` gives this name, whatever is found by it.
abbrev pub Mentions : Entries → (unit name : List ℕ) → Type 0
Mentions t unit name = (word : List ℕ) × (section : Section) × HasWord t unit word section × (named_by (identity_in unit section) word ≡ Ok name)

-- A set of units is looked up together with what they name: each of them, and each name that a word
-- of its `Also=` gives.
pub data IsLookedUpWith (t : Entries) (Units : List ℕ → Type 0) (path : List ℕ) : Type 0 where
  Itself : (unit : List ℕ) → Units unit → IsLookedUp t unit path → IsLookedUpWith t Units path
  ItsWord : (unit name : List ℕ) → Units unit → Mentions t unit name → IsLookedUp t name path → IsLookedUpWith t Units path

-- The names of a disable are looked up: each of the units, the own name of each that is found, and
-- the units that are included with them, together with what those name.
pub data IsNamedAt (t : Entries) (units : List (List ℕ)) (path : List ℕ) : Type 0 where
  Given : (unit : List ℕ) → Contains units unit → IsLookedUp t unit path → IsNamedAt t units path
  Real : (unit real file : List ℕ) → Contains units unit → IsFound t unit real file → IsLookedUp t real path → IsNamedAt t units path
  Also : IsLookedUpWith t (GoesWith t units) path → IsNamedAt t units path

-- Arguments are taken in turn from one tree to another: each is accepted in the tree that the
-- earlier ones leave.
pub data AreTaken {A : Type 0} (step : A → Step) : List A → Entries → Entries → Type 0 where
  NoMore : (t : Entries) → AreTaken step [] t t
  OneMore : (one : A) (rest : List A) (t u : Entries) (placed : List Placed) → (step one).conclusion t ≡ Ok placed → AreTaken step rest (placed_in placed t) u → AreTaken step (one ∷ rest) t u

-- The turn of an argument comes in this tree: all before it are accepted, and leave it.
abbrev pub HasTurn : {A : Type 0} → (step : A → Step) → (all : List A) → (t u : Entries) → A → Type 0
HasTurn {A} step all t u one = (before after : List A) × (all ≡ before ++ one ∷ after) × AreTaken step before t u
