-- An entry is added if nothing conflicts with its path.
use Rattle.std.proofs.Common.{◌≡◌, ℕ, List, None, true, false, Ok, Err, refl}
use Rattle.std.specs.Prelude.{is_some}
use Rattle.std.specs.FinMap as map
use Rattle.link_tree.specs.Trees.{Entries}
use Rattle.link_tree.specs.Inventory.{placed}
use Rattle.link_tree.specs.Shape.{is_crowded}
use Rattle.unit_paths.specs.Shape.{is_bad_shape}
use Rattle.link_tree.specs.declared.entry.Entry.{Entry}
use Rattle.link_tree.specs.declared.inventory_fault.InventoryFault.TheVariants.{Duplicate}

pub placed_free : (m : Entries) (path : List ℕ) (entry : Entry) → map.get m path ≡ None → is_crowded m path ≡ false → is_bad_shape path ≡ false → placed m (path, entry) ≡ Ok (map.insert m path entry)
unfolding placed
placed_free m path entry free apart shape = rw free (rw apart (rw shape refl))

pub placed_taken : (m : Entries) (path : List ℕ) (entry : Entry) → is_some (map.get m path) ≡ true → placed m (path, entry) ≡ Err Duplicate
unfolding placed
placed_taken m path entry taken = rw taken refl
