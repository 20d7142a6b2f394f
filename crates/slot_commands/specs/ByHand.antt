-- Entries that an operator places and removes by hand, as with ln(1) and rm(1).
use Rattle.std.specs.Prelude.{ℕ, Bool, true, false, if◌then◌else◌, List, Option, Some, None, Ok, Err}
use Rattle.std.specs.Str.{bytes_eq}
use Rattle.std.specs.FinMap as map
use Rattle.link_tree.specs.declared.entry.Entry.{Entry}
use Rattle.unit_paths.specs.Slots.{is_slot}
use Rattle.link_tree.specs.Trees.{Entries}
use Rattle.tree_access.specs.declared.refusal.Refusal.TheVariants.{NotASlot, Absent, Exists}
use Rattle.footprint.specs.Commands.{silent, carried_out}
use Rattle.footprint.specs.Inquiry.{Inquiry}
use Rattle.footprint.specs.Operations.{Effect}
use Rattle.tree_access.specs.Rules.{Rule}
use Rattle.footprint.specs.Steps.{Step, refuse, ruled}
use Rattle.slot_commands.specs.declared.by_hand.PlaceEntry.{PlaceEntry}
use Rattle.slot_commands.specs.declared.by_hand.RemoveEntry.{RemoveEntry}
use Rattle.slot_commands.specs.Effects.{Refuses, Leaves}

-- an entry is placed if nothing is there
abbrev pub place_at : Entry → Rule
place_at entry path None = Ok (Some entry)
place_at entry path (Some there) = Err (Exists path)

-- what is there is removed
abbrev pub remove_at : Rule
remove_at path None = Err (Absent path)
remove_at path (Some there) = Ok None

-- a rule is followed at a path that is a slot
abbrev pub ruled_slot : Rule → List ℕ → Step
ruled_slot rule path = if is_slot path then ruled rule path else refuse (NotASlot path)

abbrev pub place_steps : PlaceEntry → Step
place_steps place = ruled_slot (place_at place.entry) place.path

abbrev pub remove_steps : RemoveEntry → Step
remove_steps remove = ruled_slot remove_at remove.path

-- What the commands look up in a tree, and what effect they have.
abbrev pub place_meaning : PlaceEntry → Inquiry Effect
place_meaning place = carried_out (silent (place_steps place))

abbrev pub remove_meaning : RemoveEntry → Inquiry Effect
remove_meaning remove = carried_out (silent (remove_steps remove))

-- what is at a path after one entry was placed or removed
abbrev pub with_one : Entries → (slot : List ℕ) → Option Entry → List ℕ → Option Entry
with_one t slot entry path = if bytes_eq path slot then entry else map.get t path

-- The law of placing: the entry is placed exactly at an empty slot.
abbrev pub FillsSlot : PlaceEntry → Entries → (slot : Bool) → (there : Option Entry) → Type 0
FillsSlot place t false there = Refuses ((place_meaning place).conclusion t) (NotASlot place.path)
FillsSlot place t true (Some there) = Refuses ((place_meaning place).conclusion t) (Exists place.path)
FillsSlot place t true None = Leaves ((place_meaning place).conclusion t) t (with_one t place.path (Some place.entry))

abbrev pub PlaceFills : Type 0
PlaceFills = (place : PlaceEntry) (t : Entries) → FillsSlot place t (is_slot place.path) (map.get t place.path)

-- The law of removing: an entry is removed exactly from a slot that has one.
abbrev pub EmptiesSlot : RemoveEntry → Entries → (slot : Bool) → (there : Option Entry) → Type 0
EmptiesSlot remove t false there = Refuses ((remove_meaning remove).conclusion t) (NotASlot remove.path)
EmptiesSlot remove t true None = Refuses ((remove_meaning remove).conclusion t) (Absent remove.path)
EmptiesSlot remove t true (Some there) = Leaves ((remove_meaning remove).conclusion t) t (with_one t remove.path None)

abbrev pub RemoveEmpties : Type 0
RemoveEmpties = (remove : RemoveEntry) (t : Entries) → EmptiesSlot remove t (is_slot remove.path) (map.get t remove.path)
