-- What is placed and removed by hand.
use Rattle.std.proofs.Common.{◌≡◌, ℕ, Bool, true, false, List, Option, Some, None, Err, refl, ap}
use Rattle.std.specs.FinMap as map
use Rattle.link_tree.specs.declared.entry.Entry.{Entry}
use Rattle.unit_paths.specs.Slots.{is_slot}
use Rattle.link_tree.specs.Trees.{Entries, set_entry}
use Rattle.link_tree.proofs.Changed.{get-set}
use Rattle.slot_commands.specs.declared.by_hand.PlaceEntry.{PlaceEntry}
use Rattle.slot_commands.specs.declared.by_hand.RemoveEntry.{RemoveEntry}
use Rattle.tree_access.specs.declared.refusal.Refusal.TheVariants.{NotASlot, Absent, Exists}
use Rattle.tree_access.specs.Placing.{ruled_at}
use Rattle.tree_access.specs.Rules.{Rule}
use Rattle.slot_commands.specs.ByHand.{place_at, remove_at, ruled_slot, with_one, FillsSlot, PlaceFills, EmptiesSlot, RemoveEmpties}
use Rattle.footprint.proofs.Turns.{left_by}
use Rattle.slot_commands.proofs.Outcomes.{refuses, leaves_tree}

-- what a rule leaves at a path that is a slot, or isn't one
at_slot : (rule : Rule) (path : List ℕ) (t : Entries) (there : Option Entry) → is_slot path ≡ true → map.get t path ≡ there → (ruled_slot rule path).conclusion t ≡ ruled_at path (rule path there)
at_slot rule path t there is at = rw is (ap (λ there. ruled_at path (rule path there)) at)

off_slot : (rule : Rule) (path : List ℕ) (t : Entries) → is_slot path ≡ false → (ruled_slot rule path).conclusion t ≡ Err (NotASlot path)
off_slot rule path t off = rw off refl

placed : (place : PlaceEntry) (t : Entries) (slot : Bool) (there : Option Entry) → is_slot place.path ≡ slot → map.get t place.path ≡ there → FillsSlot place t slot there
placed place t false there slot at = refuses t _ (NotASlot place.path) (ap (λ v. left_by v t) (off_slot (place_at place.entry) place.path t slot))
placed place t true (Some entry) slot at = refuses t _ (Exists place.path) (ap (λ v. left_by v t) (at_slot (place_at place.entry) place.path t (Some entry) slot at))
placed place t true None slot at =
    leaves_tree t _ (set_entry t place.path (Some place.entry)) (with_one t place.path (Some place.entry))
    (ap (λ v. left_by v t) (at_slot (place_at place.entry) place.path t None slot at)) (get-set t place.path (Some place.entry))

pub place_fills : PlaceFills
place_fills = λ place t. placed place t (is_slot place.path) (map.get t place.path) refl refl

removed : (remove : RemoveEntry) (t : Entries) (slot : Bool) (there : Option Entry) → is_slot remove.path ≡ slot → map.get t remove.path ≡ there → EmptiesSlot remove t slot there
removed remove t false there slot at = refuses t _ (NotASlot remove.path) (ap (λ v. left_by v t) (off_slot remove_at remove.path t slot))
removed remove t true None slot at = refuses t _ (Absent remove.path) (ap (λ v. left_by v t) (at_slot remove_at remove.path t None slot at))
removed remove t true (Some entry) slot at =
    leaves_tree t _ (set_entry t remove.path None) (with_one t remove.path None)
    (ap (λ v. left_by v t) (at_slot remove_at remove.path t (Some entry) slot at)) (get-set t remove.path None)

pub remove_empties : RemoveEmpties
remove_empties = λ remove t. removed remove t (is_slot remove.path) (map.get t remove.path) refl refl
