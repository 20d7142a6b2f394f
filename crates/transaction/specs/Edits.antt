-- For the functions of this crate alone: no public contract cites it. Trees that are being edited:
-- an edit is a tree as it was, and as it is now.
use Rattle.std.specs.Prelude.{◌≡◌, ℕ, true, List, Option, Some, Result, Ok, Err}
use Rattle.std.specs.FinMap as map
use Rattle.link_tree.specs.declared.change.Change.{Change}
use Rattle.link_tree.specs.Trees.{path_cmp, Entries}
use Rattle.unit_paths.specs.Slots.{is_slot}
use Rattle.link_tree.specs.Differences.{DifferAtSlots, differences}
use Rattle.tree_access.specs.Placing.{Ruling, Wanted}
use Rattle.transaction.specs.Runs.{placed_by}
use Rattle.transaction.specs.declared.stop.Stop.{Stop}
use Rattle.transaction.specs.declared.stop.Stop.TheVariants.{Refused, OutOfMemory}

-- The changes are those from the first tree to the tree as it is now, which differs from the first
-- only at slots.
pub record IsEdit (first tree : Entries) (changes : map.FinMap path_cmp Change) : Type 0 where
  pub noted : changes ≡ differences first tree
  pub at_slots : DifferAtSlots first tree

-- links are wanted only at slots
abbrev pub AreAtSlots : Wanted → Type 0
AreAtSlots wanted = (path : List ℕ) (link : Option (List ℕ)) → map.get wanted path ≡ Some link → is_slot path ≡ true

-- For functions that change an edited tree in its place: what the ruling places has been placed, or
-- the ruling is a refusal, unless memory ran out.
abbrev pub Places : Ruling → (first old new : Entries) → map.FinMap path_cmp Change → Result (Unit {0}) Stop → Type 0
Places ruling first old new changes (Ok done) = IsEdit first new changes × (placed_by ruling old ≡ Ok (tt, new))
Places ruling first old new changes (Err (Refused refusal)) = placed_by ruling old ≡ Err refusal
Places ruling first old new changes (Err OutOfMemory) = Unit {0}

-- The same for functions that return the edit.
abbrev pub Edits : Ruling → Entries × Entries → Result (Entries × Entries) Stop → Type 0
Edits ruling old (Ok new) = (new.0 ≡ old.0) × (placed_by ruling old.1 ≡ Ok (tt, new.1))
Edits ruling old (Err (Refused refusal)) = placed_by ruling old.1 ≡ Err refusal
Edits ruling old (Err OutOfMemory) = Unit {0}
