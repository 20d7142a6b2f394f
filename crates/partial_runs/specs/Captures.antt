-- For the proofs of this crate: no public contract cites it. What holds after more was captured.
use Rattle.std.specs.Prelude.{List, [], ◌∷◌, Option, Result, Ok, Err, All, IfSome}
use Rattle.unit_paths.specs.declared.place.Place.TheVariants.{Etc, Run, Local, Vendor}
use Rattle.link_tree.specs.Trees.{Entries}
use Rattle.tree_access.specs.declared.reading.Observation.{Observation}
use Rattle.tree_access.specs.Keys.{Agree}
use Rattle.disk.specs.Disks.{Held}
use Rattle.disk.specs.Partials.{AreCaptured, IsIn, IsPartial, IsReasonAgainstPart, found_in}
use Rattle.disk.specs.declared.capture_error.CaptureError.{CaptureError}
use Rattle.disk.specs.declared.partial.Area.{Area}
use Rattle.disk.specs.declared.partial.Area.TheVariants.{Units, Dependencies, Presets}
use Rattle.disk.specs.declared.partial.Partial.{Partial}
use Rattle.partial_runs.specs.Runs.{IsWithin}

-- Two trees agree on each key of a reading.
abbrev pub AgreesOnReading : Entries → Entries → List Observation → Type 0
AgreesOnReading t u reading = All (λ observation. Agree observation.key t u) reading

-- all slots of dependencies
abbrev pub links : List Area
links = Dependencies Etc ∷ Dependencies Run ∷ Dependencies Local ∷ Dependencies Vendor ∷ []

-- all slots
abbrev pub everything : List Area
everything = Units Etc ∷ Units Run ∷ Units Local ∷ Units Vendor ∷ Presets ∷ []

-- Each of these areas was captured.
abbrev pub AreAllCaptured : Held → Entries → List Area → Type 0
AreAllCaptured t found areas = All (λ area. AreCaptured t found (IsIn area)) areas

-- More was captured: the new part of what is held has all entries of the old one, and this holds of
-- it. Or there is a reason for the error.
abbrev pub Captures : Option Held → (old new : Partial) → Result (Unit {0}) CaptureError → (Held → Entries → Type 0) → Type 0
Captures tree old new (Ok done) P = IfSome tree (λ t. IsPartial t old → IsPartial t new × IsWithin (found_in old) (found_in new) × P t (found_in new))
Captures tree old new (Err e) P = IfSome tree (λ t. IsPartial t old → IsReasonAgainstPart t e)
