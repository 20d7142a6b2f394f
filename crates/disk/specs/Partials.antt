-- What was captured of a part of what a disk holds: some paths and some areas.
use Rattle.std.specs.Prelude.{◌≡◌, ◌<◌, ◌⊎◌, ℕ, Bool, true, false, List, Option, Some, None, Result, Ok, Err, All, IfSome, is_some}
use Rattle.std.specs.FinMap as map
use Rattle.unit_paths.specs.Paths.{parent}
use Rattle.unit_paths.specs.Places.{unit_directory, preset_places}
use Rattle.unit_paths.specs.Slots.{is_slot}
use Rattle.unit_paths.specs.declared.place.Place.{Place}
use Rattle.unit_paths.specs.declared.slot.Slot.{Slot}
use Rattle.unit_paths.specs.declared.slot.Slot.TheVariants as slots
use Rattle.link_tree.specs.declared.entry.Entry.{Entry}
use Rattle.link_tree.specs.Shape.{IsTree}
use Rattle.link_tree.specs.Trees.{Entries}
use Rattle.disk.specs.Disks.{Held, Stands, StandsOddly, IsInTheWay}
use Rattle.disk.specs.Capturing.{Paths, IsCaptured, IsBegun, IsUnitSlotOf, IsPresetSlotOf, AtSome}
use Rattle.disk.specs.declared.capture_error.CaptureError.{CaptureError}
use Rattle.disk.specs.declared.capture_error.CaptureError.TheVariants as captures
use Rattle.disk.specs.declared.disk.Found.{Found}
use Rattle.disk.specs.declared.disk.Found.TheVariants as founds
use Rattle.disk.specs.declared.disk.Oddity.TheVariants as oddities
use Rattle.disk.specs.declared.partial.Area.{Area}
use Rattle.disk.specs.declared.partial.Area.TheVariants as areas
use Rattle.disk.specs.declared.partial.Partial.{Partial}
use Rattle.disk.specs.declared.taking.Taken.{Taken}

-- a slot in a .wants, .requires or .upholds directory in this directory of units
abbrev pub IsDependencySlotOf : Place → List ℕ → Type 0
IsDependencySlotOf place path = (is_slot path ≡ true) × (parent (parent path) ≡ unit_directory place)

-- the slots of an area
abbrev pub IsIn : Area → List ℕ → Type 0
IsIn (areas.Units place) path = IsUnitSlotOf place path
IsIn (areas.Dependencies place) path = IsDependencySlotOf place path
IsIn areas.Presets path = AtSome preset_places IsPresetSlotOf path

-- the smallest area that contains the slots of a kind
abbrev pub area_of : Slot → Area
area_of (slots.Unit place) = areas.Units place
area_of (slots.Wants place) = areas.Dependencies place
area_of (slots.Requires place) = areas.Dependencies place
area_of (slots.Upholds place) = areas.Dependencies place
area_of (slots.Preset place) = areas.Presets

-- the entries that were found
abbrev pub found_in : Partial → Entries
found_in partial = partial.taken.found

-- All these paths were captured.
abbrev pub AreCaptured : Held → Entries → (List ℕ → Type 0) → Type 0
AreCaptured t found P = (path : List ℕ) → P path → IsCaptured t found path

-- All that was taken is on the disk, whichever paths were requested.
abbrev pub IsTakenFrom : Held → Taken → Type 0
IsTakenFrom t taken = (asked : Paths) × IsBegun t asked taken.found taken.wanted.items

-- A part of what a disk holds: all that was found is on the disk, and nothing else is at the paths
-- and in the areas that were captured.
pub record IsPartial (t : Held) (partial : Partial) : Type 0 where
  pub right : IsTakenFrom t partial.taken
  pub paths : AreCaptured t partial.taken.found (λ path. is_some (map.get partial.paths path) ≡ true)
  pub areas : All (λ area. AreCaptured t partial.taken.found (IsIn area)) partial.areas.items

-- There are more entries than a tree may have.
abbrev pub HasTooMany : Entries → Type 0
HasTooMany t = (some : Entries) × (65536 < map.len some) × ((path : List ℕ) (entry : Entry) → map.get some path ≡ Some entry → map.get t path ≡ Some entry)

-- This is a possible reason why a part was not captured, if this is what the disk holds.
abbrev pub IsReasonAgainstPart : Held → CaptureError → Type 0
IsReasonAgainstPart t (captures.Odd slot oddity) = (is_slot slot ≡ true) × StandsOddly t slot oddity
IsReasonAgainstPart t (captures.NoDirectory directory) = IsInTheWay t directory
IsReasonAgainstPart t captures.TooMany = HasTooMany t.entries
IsReasonAgainstPart t captures.BadShape = IsTree t.entries → ⊥
IsReasonAgainstPart t captures.Failed = Unit {0}
IsReasonAgainstPart t captures.OutOfMemory = Unit {0}

-- Nothing is at the path, or a directory is.
abbrev pub IsNoneOrDirectory : Held → List ℕ → Type 0
IsNoneOrDirectory t path = Stands t path None ⊎ StandsOddly t path oddities.Directory

-- From here on for the proofs of this crate: no public contract cites it.
-- Slots can be in what was found.
abbrev pub can_contain_slots : Found → Bool
can_contain_slots founds.Nothing = true
can_contain_slots (founds.Entry entry) = false
can_contain_slots (founds.Odd oddities.Directory) = true
can_contain_slots (founds.Odd oddities.Special) = false
can_contain_slots (founds.Odd oddities.TooLarge) = false
can_contain_slots (founds.Odd oddities.BadTarget) = false

-- More was taken: these paths were captured too, and what was captured before still is.
abbrev pub TakesMore : Held → (old new : Taken) → (List ℕ → Type 0) → Type 0
TakesMore t old new P = IsTakenFrom t old → IsTakenFrom t new × AreCaptured t new.found (λ path. P path ⊎ IsCaptured t old.found path)

-- The same, if it is known what the disk holds; or the reason why it ended.
abbrev pub TakesMoreOrStops : Option Held → (old new : Taken) → Result (Unit {0}) CaptureError → (List ℕ → Type 0) → Type 0
TakesMoreOrStops tree old new (Ok done) P = IfSome tree (λ t. TakesMore t old new P)
TakesMoreOrStops tree old new (Err e) P = IfSome tree (λ t. IsTakenFrom t old → IsReasonAgainstPart t e)
