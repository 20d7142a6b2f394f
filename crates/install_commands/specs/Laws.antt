-- Laws of enabling and disabling, each the contract of a public function: systemctl(1), "enable",
-- "disable".
use Rattle.std.specs.Prelude.{◌≡◌, ℕ, ◌↔◌, ◌⊎◌, true, false, List, [], ◌∷◌, ◌++◌, All, Contains, Some, None, Ok, Err, length}
use Rattle.std.specs.List.{IsDistinct}
use Rattle.std.specs.Str.{bytes_eq}
use Rattle.std.specs.FinMap as map
use Rattle.unit_file.specs.Notices.{NoticeMap}
use Rattle.unit_paths.specs.Places.{scope_place}
use Rattle.unit_paths.specs.declared.place.Scope.{Scope}
use Rattle.link_tree.specs.declared.entry.Entry.{Entry}
use Rattle.link_tree.specs.declared.entry.Entry.TheVariants.{Link}
use Rattle.link_tree.specs.Links.{belongs}
use Rattle.link_tree.specs.Trees.{Entries, after_changes}
use Rattle.install_section.specs.Closure.{IsUnit, Names, Reached}
use Rattle.install_section.specs.WantedLaws.{AsksFor}
use Rattle.footprint.specs.declared.answer.Answer.TheVariants.{Done, Refused}
use Rattle.tree_access.specs.declared.refusal.Refusal.{Refusal}
use Rattle.tree_access.specs.declared.refusal.Refusal.TheVariants.{TooMany}
use Rattle.footprint.specs.Inquiry.{Inquiry}
use Rattle.tree_access.specs.Keys.{AgreeOn}
use Rattle.footprint.specs.Operations.{Effect}
use Rattle.tree_access.specs.Rules.{LeadsAs}
use Rattle.footprint.specs.Units.{IsFound}
use Rattle.install_commands.specs.declared.disable.Disable.{Disable}
use Rattle.install_commands.specs.declared.enable.Enable.{Enable}
use Rattle.install_commands.specs.Check.{checked, one_checked}
use Rattle.install_commands.specs.Disable.{units_named, disable_meaning}
use Rattle.install_commands.specs.Enable.{enable_wants, enable_meaning}

-- A command is accepted, and leaves this tree.
abbrev pub Leaves : Inquiry Effect → (t u : Entries) → Type 0
Leaves command t u = (notices : NoticeMap) × ((command.conclusion t).answer ≡ Done notices) × (u ≡ after_changes (command.conclusion t).changes t)

-- It is accepted, and changes nothing.
abbrev pub ChangesNothing : Inquiry Effect → Entries → Type 0
ChangesNothing command t = (notices : NoticeMap) × (command.conclusion t ≡ record { answer = Done notices; changes = [] })

-- One of the names isn't found under its own name, but those before it are.
abbrev pub IsFirstAmiss : Entries → (names : List (List ℕ)) → Refusal → Type 0
IsFirstAmiss t names refusal =
    (before after : List (List ℕ)) × (name : List ℕ) × (names ≡ before ++ name ∷ after) × All (IsUnit t) before × ((one_checked name).conclusion t ≡ Err refusal)

-- Units are refused exactly if one isn't found under its own name, for the first such unit.
abbrev pub CheckRefusesFirst : Type 0
CheckRefusesFirst = (names : List (List ℕ)) (t : Entries) (refusal : Refusal) → ((checked names).conclusion t ≡ Err refusal) ↔ IsFirstAmiss t names refusal

-- They pass exactly if each is.
abbrev pub CheckPasses : Type 0
CheckPasses = (names : List (List ℕ)) (t : Entries) → ((checked names).conclusion t ≡ Ok tt) ↔ All (IsUnit t) names

-- One of the units, or of those that they name (transitively), asks for a link at the path, to the
-- file.
abbrev pub IsWantedBy : Scope → (units : List (List ℕ)) → Entries → (path file : List ℕ) → Type 0
IsWantedBy scope units t path file = (unit : List ℕ) × Reached t units unit × AsksFor t (scope_place scope) unit path file

abbrev pub IsWanted : Enable → Entries → (path file : List ℕ) → Type 0
IsWanted enable t path file = IsWantedBy enable.scope enable.units t path file

-- A tree with more links: every old entry is still there, and where there was none there is the
-- link that is wanted there, if any.
abbrev pub JoinedWith : (wanted : (path file : List ℕ) → Type 0) → (t u : Entries) → Type 0
JoinedWith wanted t u = (path : List ℕ) (entry : Entry) →
    (map.get u path ≡ Some entry) ↔ ((map.get t path ≡ Some entry) ⊎ ((map.get t path ≡ None) × (file : List ℕ) × wanted path file × (entry ≡ Link file)))

-- An accepted enable adds the wanted links to the tree, and then each of them leads to the right
-- file.
abbrev pub EnableJoins : Type 0
EnableJoins = (enable : Enable) (t u : Entries) → Leaves (enable_meaning enable) t u
    → JoinedWith (IsWanted enable t) t u × ((path file : List ℕ) → IsWanted enable t path file → LeadsAs u path file)

-- The same enable once more changes nothing, if what it looks up is unchanged.
abbrev pub EnableAgain : Type 0
EnableAgain = (enable : Enable) (t u : Entries) → Leaves (enable_meaning enable) t u → AgreeOn ((enable_wants enable).keys t) t u
    → ((enable_meaning enable).conclusion u).changes ≡ []

-- The units whose `Also=` counts: the own names of the given units that are found, if they are
-- found under these; and, transitively, those that they name.
pub data GoesWith (t : Entries) (units : List (List ℕ)) : List ℕ → Type 0 where
  Own : (unit name file : List ℕ) → Contains units unit → IsFound t unit name file → IsUnit t name → GoesWith t units name
  Named : (unit name : List ℕ) → GoesWith t units unit → Names t unit name → GoesWith t units name

-- The names of a disable: those that are given, the own names of those that are found, and those of
-- the units that are included with them.
pub data IsNamed (t : Entries) (units : List (List ℕ)) (name : List ℕ) : Type 0 where
  Given : Contains units name → IsNamed t units name
  Found : (unit file : List ℕ) → Contains units unit → IsFound t unit name file → IsNamed t units name
  Also : GoesWith t units name → IsNamed t units name

-- A link of the scope belongs to one of the names.
abbrev pub IsGone : Scope → (units : List (List ℕ)) → Entries → (path : List ℕ) → Entry → Type 0
IsGone scope units t path entry = (name : List ℕ) × IsNamed t units name × (belongs scope name path entry ≡ true)

abbrev pub IsRemoved : Disable → Entries → (path : List ℕ) → Entry → Type 0
IsRemoved disable t path entry = IsGone disable.scope disable.units t path entry

-- A tree without some of its entries.
abbrev pub Without : (gone : (path : List ℕ) → Entry → Type 0) → (t u : Entries) → Type 0
Without gone t u = (path : List ℕ) (entry : Entry) → (map.get u path ≡ Some entry) ↔ ((map.get t path ≡ Some entry) × ¬ gone path entry)

-- An accepted disable leaves the tree without the links of the scope that belong to one of the
-- names.
abbrev pub DisableRemoves : Type 0
DisableRemoves = (disable : Disable) (t u : Entries) → Leaves (disable_meaning disable) t u → Without (IsRemoved disable t) t u

-- It is refused exactly if over 1,024 units are included with those that are given.
abbrev pub DisableRefused : Type 0
DisableRefused = (disable : Disable) (t : Entries) (refusal : Refusal) → (((disable_meaning disable).conclusion t).answer ≡ Refused refusal)
    ↔ ((refusal ≡ TooMany) × (names : List (List ℕ)) × IsDistinct bytes_eq names × (length names ≡ 1025) × All (GoesWith t disable.units) names)

-- The same disable once more changes nothing, if what it looks up is unchanged.
abbrev pub DisableAgain : Type 0
DisableAgain = (disable : Disable) (t u : Entries) → Leaves (disable_meaning disable) t u → AgreeOn ((units_named disable.units).keys t) t u
    → ChangesNothing (disable_meaning disable) u

-- the disable that should undo an enable
abbrev pub disable_of : Enable → Disable
disable_of enable = record { scope = enable.scope; units = enable.units }

-- A disable after an enable is accepted, if what it looks up is as it was before the enable, and
-- then no link of the scope belongs to one of the units that were enabled.
abbrev pub DisableAfterEnable : Type 0
DisableAfterEnable = (enable : Enable) (t u : Entries) → Leaves (enable_meaning enable) t u → AgreeOn ((units_named enable.units).keys t) t u
    → (v : Entries) × Leaves (disable_meaning (disable_of enable)) u v
    × ((unit : List ℕ) → Reached t enable.units unit → (path : List ℕ) (entry : Entry) → map.get v path ≡ Some entry → belongs enable.scope unit path entry ≡ false)
