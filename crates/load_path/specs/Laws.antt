-- Laws of looking up units, each the contract of a public function.
use Rattle.std.specs.Prelude.{◌≡◌, ◌<◌, ◌≤◌, ◌↔◌, ◌⊎◌, ℕ, true, List, [], ◌∷◌, ◌++◌, length, All, Contains, map as list_map, Option, Some, None, is_some}
use Rattle.std.specs.List.{find as first_of, IsDistinct}
use Rattle.std.specs.Option.{option_or}
use Rattle.std.specs.Str.{bytes_eq}
use Rattle.std.specs.FinMap as map
use Rattle.unit_name.specs.declared.kind.Kind.{Kind}
use Rattle.unit_name.specs.declared.kind.Kind.TheVariants.{Plain, Instance}
use Rattle.unit_name.specs.Parts.{kind_of}
use Rattle.unit_name.specs.Name.{is_unit_name, type_of, instance_of, template_of}
use Rattle.unit_paths.specs.Places.{places}
use Rattle.unit_paths.specs.Slots.{unit_slot}
use Rattle.unit_paths.specs.Paths.{name_at}
use Rattle.link_tree.specs.Trees.{Entries}
use Rattle.unit_paths.specs.declared.place.Place.{Place}
use Rattle.load_path.specs.declared.following.End.{End}
use Rattle.load_path.specs.declared.following.End.TheVariants as ends
use Rattle.load_path.specs.declared.finding.Found.{Found}
use Rattle.load_path.specs.declared.finding.Found.TheVariants.{Missing, Masked, Dangling, Unit}
use Rattle.load_path.specs.Search.{SameAt, Search, each_once}
use Rattle.load_path.specs.Follow.{follow}
use Rattle.load_path.specs.Chains.{IsFileAt, IsLinkAt, LinksTo, Leads, LeadsTo}
use Rattle.load_path.specs.RealNames.{real_name}
use Rattle.load_path.specs.Find.{find}

-- Each cell of a list is there once, and no other cell is.
abbrev pub CellsOnce : Type 0
CellsOnce = (cells : List (List ℕ)) → IsDistinct bytes_eq (each_once cells) × ((path : List ℕ) → Contains (each_once cells) path ↔ Contains cells path)

-- In trees that have the same entries at the cells of a search, it has the same result and looks at
-- the same cells.
abbrev pub Agrees : {X : Type 0} → Search X → Type 0
Agrees s = (t u : Entries) → SameAt (each_once (s.cells t)) t u → (s.conclusion t ≡ s.conclusion u) × (each_once (s.cells t) ≡ each_once (s.cells u))

abbrev pub FollowAgrees : Type 0
FollowAgrees = (path : List ℕ) → Agrees (follow path)

abbrev pub FindAgrees : Type 0
FindAgrees = (name : List ℕ) → Agrees (find name)

-- At most this number of cells are looked at, even if a cell counts each time that it is looked at.
abbrev pub LooksAtMost : {X : Type 0} → ℕ → Search X → Type 0
LooksAtMost most s = (t : Entries) → (length (s.cells t) ≤ most) × (length (each_once (s.cells t)) ≤ most)

abbrev pub FollowIsShort : Type 0
FollowIsShort = (path : List ℕ) → LooksAtMost 9 (follow path)

abbrev pub FindIsShort : Type 0
FindIsShort = (name : List ℕ) → LooksAtMost 16 (find name)

-- A path is looked at exactly if a chain of at most eight links leads to it; `/dev/null` is on
-- none.
abbrev pub FollowLooksAlongChain : Type 0
FollowLooksAlongChain = (path cell : List ℕ) (t : Entries) → Contains ((follow path).cells t) cell ↔ ((links : ℕ) × (links ≤ 8) × Leads t path links cell)

-- Where a path leads is the end of its chain of at most eight links.
abbrev pub FollowIsChain : Type 0
FollowIsChain = (path : List ℕ) (end : End) (t : Entries) → ((follow path).conclusion t ≡ end) ↔ LeadsTo t 8 path end

-- A path leads to a file exactly if at most eight links lead to the file.
abbrev pub FileIsLed : Type 0
FileIsLed = (path file : List ℕ) (t : Entries) → ((follow path).conclusion t ≡ ends.File file) ↔ ((links : ℕ) × (links ≤ 8) × Leads t path links file × IsFileAt t file)

-- the first directory that has an entry for a name
abbrev pub first_place : Entries → List ℕ → Option Place
first_place t name = first_of (λ place. is_some (map.get t (unit_slot place name))) places

-- for an instance, the first that has one for its template
abbrev pub template_place : Kind → Entries → List ℕ → Option Place
template_place Instance t name = first_place t (template_of name)
template_place other t name = None

-- the directory of a name's entry
abbrev pub entry_place : Entries → List ℕ → Option Place
entry_place t name = option_or (first_place t name) (template_place (kind_of (instance_of name)) t name)

-- the directory that a result names
abbrev pub place_in : Found → Option Place
place_in Missing = None
place_in (Masked place) = Some place
place_in (Dangling link) = None
place_in (Unit real file place) = Some place

-- The directory that is named is that of the entry, wherever the file is.
abbrev pub PlaceIsEntrys : Type 0
PlaceIsEntrys = (name : List ℕ) (t : Entries) (place : Place) → place_in ((find name).conclusion t) ≡ Some place → entry_place t name ≡ Some place

-- A unit is missing exactly if no directory has an entry for it.
abbrev pub MissingHasNoEntry : Type 0
MissingHasNoEntry = (name : List ℕ) (t : Entries) → ((find name).conclusion t ≡ Missing) ↔ (entry_place t name ≡ None)

-- the slot of a name in a directory, or of its template
abbrev pub IsSlotOf : List ℕ → Place → List ℕ → Type 0
IsSlotOf name place path = (path ≡ unit_slot place name) ⊎ (path ≡ unit_slot place (template_of name))

-- the slots at which a name is looked for, in order: its own in each directory, and after them, for
-- an instance, those of its template
abbrev pub slots_for : List ℕ → List (Place × List ℕ)
slots_for name = list_map (λ place. (place, unit_slot place name)) places

abbrev pub template_slots : Kind → List ℕ → List (Place × List ℕ)
template_slots Instance name = slots_for (template_of name)
template_slots other name = []

abbrev pub candidates : List ℕ → List (Place × List ℕ)
candidates name = slots_for name ++ template_slots (kind_of (instance_of name)) name

-- The slot is a candidate, and nothing is at the candidates before it.
abbrev pub IsTried : Entries → (name : List ℕ) → Place × List ℕ → Type 0
IsTried t name slot = (before after : List (Place × List ℕ)) × (candidates name ≡ before ++ slot ∷ after) × All (λ earlier. map.get t earlier.1 ≡ None) before

-- The slot is the first candidate that has an entry.
abbrev pub IsFirstEntry : Entries → (name : List ℕ) → Place × List ℕ → Type 0
IsFirstEntry t name slot = IsTried t name slot × (is_some (map.get t slot.1) ≡ true)

-- A path is looked at exactly if it is a candidate and nothing is at those before it, or if at most
-- eight links lead to it from the first candidate that has an entry.
abbrev pub FindLooksAlongChain : Type 0
FindLooksAlongChain = (name cell : List ℕ) (t : Entries) → Contains ((find name).cells t) cell ↔
    (((slot : Place × List ℕ) × IsTried t name slot × (slot.1 ≡ cell)) ⊎ ((slot : Place × List ℕ) × IsFirstEntry t name slot × (links : ℕ) × (links ≤ 8) × Leads t slot.1 links cell))

-- The last link to a file: the one that leads to it, or, if no link does, the file itself.
abbrev pub IsLastLink : Entries → (path link file : List ℕ) → Type 0
IsLastLink t path link file = ((link ≡ path) × (file ≡ path)) ⊎ ((links : ℕ) × (links < 8) × Leads t path links link × LinksTo t link file)

-- A path leads by this last link to a file whose name isn't right for the name that is looked up.
abbrev pub LeadsToForeign : Entries → (name path link : List ℕ) → Type 0
LeadsToForeign t name path link = (file : List ℕ) × IsFileAt t file × IsLastLink t path link file × (real_name name (name_at file) ≡ None)

-- What a name is found to be, exactly: missing if nothing is at any candidate; otherwise the first
-- entry decides: masked if it leads to /dev/null or an empty file, a unit if it leads to a file
-- whose name says so, and otherwise dangling.
pub record FoundByFirstEntry (name : List ℕ) (t : Entries) : Type 0 where
  pub missing : ((find name).conclusion t ≡ Missing) ↔ All (λ slot. map.get t slot.1 ≡ None) (candidates name)
  pub masked : (place : Place) → ((find name).conclusion t ≡ Masked place) ↔ ((path : List ℕ) × IsFirstEntry t name (place, path) × LeadsTo t 8 path ends.Null)
  pub unit : (real file : List ℕ) (place : Place) → ((find name).conclusion t ≡ Unit real file place) ↔
      ((path : List ℕ) × IsFirstEntry t name (place, path) × LeadsTo t 8 path (ends.File file) × (real_name name (name_at file) ≡ Some real))
  pub dangling : (link : List ℕ) → ((find name).conclusion t ≡ Dangling link) ↔
      ((place : Place) × (path : List ℕ) × IsFirstEntry t name (place, path) × (LeadsTo t 8 path (ends.Dangling link) ⊎ LeadsToForeign t name path link))

abbrev pub NamesAreFoundByFirstEntry : Type 0
NamesAreFoundByFirstEntry = (name : List ℕ) (t : Entries) → FoundByFirstEntry name t

-- A unit's file is where its slot leads.
abbrev pub UnitIsFollowed : Type 0
UnitIsFollowed = (name : List ℕ) (t : Entries) (real file : List ℕ) (place : Place) → (find name).conclusion t ≡ Unit real file place
    → (path : List ℕ) × IsSlotOf name place path × ((follow path).conclusion t ≡ ends.File file)

-- The slot of a masked unit leads to /dev/null or to an empty file.
abbrev pub MaskedIsFollowed : Type 0
MaskedIsFollowed = (name : List ℕ) (t : Entries) (place : Place) → (find name).conclusion t ≡ Masked place
    → (path : List ℕ) × IsSlotOf name place path × ((follow path).conclusion t ≡ ends.Null)

-- What is reported as dangling is a link, if the name of a unit is looked up.
abbrev pub DanglingIsLink : Type 0
DanglingIsLink = (name : List ℕ) (t : Entries) (link : List ℕ) → is_unit_name name ≡ true → (find name).conclusion t ≡ Dangling link → IsLinkAt t link

-- A unit has a file that isn't empty.
abbrev pub UnitHasFile : Type 0
UnitHasFile = (name : List ℕ) (t : Entries) (real file : List ℕ) (place : Place) → (find name).conclusion t ≡ Unit real file place → IsFileAt t file

-- A unit has a name, with the type and the instance of the name that led to it.
abbrev pub UnitIsLikeName : Type 0
UnitIsLikeName = (name : List ℕ) (t : Entries) (real file : List ℕ) (place : Place) → (find name).conclusion t ≡ Unit real file place
    → (is_unit_name real ≡ true) × (type_of real ≡ type_of name) × (instance_of real ≡ instance_of name)

-- If a plain name leads to a unit, the unit has the name of its file.
abbrev pub PlainIsItsFile : Type 0
PlainIsItsFile = (name : List ℕ) (t : Entries) (real file : List ℕ) (place : Place) → kind_of (instance_of name) ≡ Plain → (find name).conclusion t ≡ Unit real file place → real ≡ name_at file
