-- Why commands are refused: what several of them say of a unit, and of a link that is wanted.
use Rattle.std.specs.Prelude.{◌≡◌, ◌≢◌, ℕ, List, Some}
use Rattle.std.specs.FinMap as map
use Rattle.unit_paths.specs.Canonical.{canonical}
use Rattle.unit_paths.specs.declared.place.Place.{Place}
use Rattle.link_tree.specs.declared.entry.Entry.{Entry}
use Rattle.link_tree.specs.declared.entry.Entry.TheVariants.{Link}
use Rattle.link_tree.specs.Trees.{Entries}
use Rattle.load_path.specs.declared.finding.Found.TheVariants as founds
use Rattle.load_path.specs.Find.{find}
use Rattle.tree_access.specs.declared.refusal.Refusal.{Refusal}
use Rattle.tree_access.specs.declared.refusal.Refusal.TheVariants.{NotFound, Masked, Dangling, IsAlias}
use Rattle.tree_access.specs.declared.refusal.Subject.TheVariants as subjects
use Rattle.footprint.specs.Units.{IsFound}

-- Why no unit is found under a name, systemd.unit(5), "Unit File Load Path": there is no entry for
-- it; it is masked; or its links lead to no file of that name.
pub data WhyNoUnit (t : Entries) (name : List ℕ) : Refusal → Type 0 where
  NoEntry : (find name).conclusion t ≡ founds.Missing → WhyNoUnit t name (NotFound (subjects.Unit name))
  Mask : (place : Place) → (find name).conclusion t ≡ founds.Masked place → WhyNoUnit t name (Masked (subjects.Unit name))
  LeadsNowhere : (link : List ℕ) → (find name).conclusion t ≡ founds.Dangling link → WhyNoUnit t name (Dangling link)

-- Why a name can't be enabled, systemctl(1), "enable UNIT": no unit is found under it, or it is an
-- alias of another unit.
pub data WhyAmiss (t : Entries) (name : List ℕ) : Refusal → Type 0 where
  NoUnit : (why : Refusal) → WhyNoUnit t name why → WhyAmiss t name why
  Alias : (real file : List ℕ) → IsFound t name real file → real ≢ name → WhyAmiss t name (IsAlias name real)

-- An entry at a path is a link that leads where one with this target would, to the same path.
abbrev pub LeadsThere : (path target : List ℕ) → Entry → Type 0
LeadsThere path target entry = (text end : List ℕ) × (entry ≡ Link text) × (canonical path text ≡ Some end) × (canonical path target ≡ Some end)

-- Something is at a path where a link to this target is wanted, and it is no link that leads there.
abbrev pub IsTaken : Entries → (path target : List ℕ) → Type 0
IsTaken t path target = (entry : Entry) × (map.get t path ≡ Some entry) × ¬ LeadsThere path target entry
