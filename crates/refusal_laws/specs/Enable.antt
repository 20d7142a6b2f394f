-- Why enable is refused, the contract of a public function.
use Rattle.std.specs.Prelude.{◌≡◌, ◌≢◌, ℕ, ◌↔◌, List, All, length}
use Rattle.std.specs.List.{IsDistinct}
use Rattle.std.specs.Str.{bytes_eq}
use Rattle.unit_paths.specs.declared.place.Scope.{Scope}
use Rattle.link_tree.specs.Trees.{Entries}
use Rattle.install_section.specs.Closure.{IsUnit, Reached}
use Rattle.install_section.specs.WantedLaws.{LacksInstance, IsLeast}
use Rattle.footprint.specs.declared.answer.Answer.TheVariants.{Refused}
use Rattle.tree_access.specs.declared.refusal.Refusal.{Refusal}
use Rattle.tree_access.specs.declared.refusal.Refusal.TheVariants.{TooMany, NeedsInstance, Clash, Exists}
use Rattle.install_commands.specs.declared.enable.Enable.{Enable}
use Rattle.install_commands.specs.Enable.{enable_meaning}
use Rattle.install_commands.specs.Laws.{IsWantedBy}
use Rattle.footprint_laws.specs.Sets.{IsUpTo}
use Rattle.refusal_laws.specs.Reasons.{WhyAmiss, IsTaken}

-- Over 1,024 units are enabled: those that are given, and those that they name (transitively).
abbrev pub AreTooMany : Entries → (units : List (List ℕ)) → Type 0
AreTooMany t units = (names : List (List ℕ)) × IsDistinct bytes_eq names × (length names ≡ 1025) × All (Reached t units) names

-- All given units are found under their own names, and not too many are enabled.
abbrev pub AreKnown : Entries → (units : List (List ℕ)) → Type 0
AreKnown t units = All (IsUnit t) units × ¬ AreTooMany t units

-- One of the units that are enabled is a template that represents its default instance, and has
-- none.
abbrev pub IsNameless : Entries → (units : List (List ℕ)) → (unit : List ℕ) → Type 0
IsNameless t units unit = Reached t units unit × LacksInstance t unit

-- Links to two files are wanted at a path.
abbrev pub HasTwoFiles : Scope → Entries → (units : List (List ℕ)) → (path : List ℕ) → Type 0
HasTwoFiles scope t units path = (one other : List ℕ) × (one ≢ other) × IsWantedBy scope units t path one × IsWantedBy scope units t path other

-- A link to a file is wanted at a path, and something other than such a link is there.
abbrev pub IsWantedAndTaken : Scope → Entries → (units : List (List ℕ)) → (path : List ℕ) → Type 0
IsWantedAndTaken scope t units path = (file : List ℕ) × IsWantedBy scope units t path file × IsTaken t path file

-- Nothing has this property.
abbrev pub HasNone : (List ℕ → Type 0) → Type 0
HasNone P = (text : List ℕ) → ¬ P text

-- enable, systemctl(1), "enable UNIT": a unit isn't found under its own name, but all before it
-- are; too many are enabled; one of them lacks its default instance, the least such name; links to
-- two files are wanted at a path, the least such path; or something else is at a path at which a
-- link is wanted, the least such path.
pub data WhyNotEnable (enable : Enable) (t : Entries) : Refusal → Type 0 where
  Amiss : (unit : List ℕ) (why : Refusal) → IsUpTo (IsUnit t) enable.units unit → WhyAmiss t unit why → WhyNotEnable enable t why
  Many : All (IsUnit t) enable.units → AreTooMany t enable.units → WhyNotEnable enable t TooMany
  NoInstance : (unit : List ℕ) → AreKnown t enable.units → IsLeast (IsNameless t enable.units) unit → WhyNotEnable enable t (NeedsInstance unit)
  TwoFiles : (path : List ℕ) → AreKnown t enable.units → HasNone (IsNameless t enable.units) → IsLeast (HasTwoFiles enable.scope t enable.units) path → WhyNotEnable enable t (Clash path)
  Taken : (path : List ℕ) → AreKnown t enable.units → HasNone (IsNameless t enable.units) → HasNone (HasTwoFiles enable.scope t enable.units)
      → IsLeast (IsWantedAndTaken enable.scope t enable.units) path → WhyNotEnable enable t (Exists path)

-- It is refused exactly for these reasons.
abbrev pub EnableRefused : Type 0
EnableRefused = (enable : Enable) (t : Entries) (refusal : Refusal) → (((enable_meaning enable).conclusion t).answer ≡ Refused refusal) ↔ WhyNotEnable enable t refusal
