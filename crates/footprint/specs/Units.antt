-- Units that commands look up: systemd.unit(5), "Unit File Load Path".
use Rattle.std.specs.Prelude.{◌≡◌, ℕ, List, Result, Ok, Err}
use Rattle.unit_paths.specs.declared.place.Place.{Place}
use Rattle.link_tree.specs.Trees.{Entries}
use Rattle.load_path.specs.declared.finding.Found.{Found}
use Rattle.load_path.specs.declared.finding.Found.TheVariants as founds
use Rattle.load_path.specs.Find.{find}
use Rattle.tree_access.specs.declared.refusal.Subject.TheVariants.{Unit}
use Rattle.tree_access.specs.declared.refusal.Refusal.{Refusal}
use Rattle.tree_access.specs.declared.refusal.Refusal.TheVariants.{NotFound, Masked, Dangling}
use Rattle.footprint.specs.Inquiry.{by_cells, giving}
use Rattle.footprint.specs.Steps.{Step, unless_refused, ◌>>=◌}

-- a unit's own name and its file, given what was found
abbrev pub found_unit : (name : List ℕ) → Found → Result (List ℕ × List ℕ) Refusal
found_unit name founds.Missing = Err (NotFound (Unit name))
found_unit name (founds.Masked place) = Err (Masked (Unit name))
found_unit name (founds.Dangling link) = Err (Dangling link)
found_unit name (founds.Unit real file place) = Ok (real, file)

-- a unit is looked up, and the step for it follows unless that is refused
abbrev pub with_unit : (name : List ℕ) → (on : (real file : List ℕ) → Step) → Step
with_unit name on = do
  unit ← giving (by_cells (find name)) (found_unit name)
  unless_refused (λ (unit : List ℕ × List ℕ). on unit.0 unit.1) unit

-- For the laws: a name is found as a unit, with this own name and this file.
abbrev pub IsFound : Entries → (name real file : List ℕ) → Type 0
IsFound t name real file = (place : Place) × ((find name).conclusion t ≡ founds.Unit real file place)
