-- The grammar of inventories: which bytes are read as a tree, without the steps of reading.
use Rattle.std.specs.Prelude.{◌≡◌, ◌≢◌, ◌≤◌, ◌↔◌, ℕ, List, ◌++◌, length, AllPairs, Ok, codes}
use Rattle.std.specs.List.{flat_map}
use Rattle.std.specs.FinMap as map
use Rattle.link_tree.specs.declared.entry.Entry.{Entry}
use Rattle.link_tree.specs.Trees.{Entries, entry_line}
use Rattle.link_tree.specs.Shape.{IsTree}
use Rattle.link_tree.specs.Inventory.{inventory_of}

-- No path occurs twice.
abbrev pub AreDistinct : List (List ℕ × Entry) → Type 0
AreDistinct entries = AllPairs (λ one other. one.0 ≢ other.0) entries

-- An inventory is the header, the lines of at most 65,536 entries with distinct paths, in any
-- order, and the line `end`; rest follows. Its tree is the map of these entries, each of which is
-- allowed at its path, and none is beneath another.
pub record IsInventory (bytes : List ℕ) (m : Entries) (rest : List ℕ) : Type 0 where
  pub entries : List (List ℕ × Entry)
  pub text : bytes ≡ codes "unitadm-inventory 1\n" ++ (flat_map entry_line entries ++ (codes "end\n" ++ rest))
  pub few : length entries ≤ 65536
  pub distinct : AreDistinct entries
  pub map : m ≡ map.from_entries entries
  pub tree : IsTree m

-- Bytes are read as a tree with some rest exactly if they are its inventory followed by that rest.
abbrev pub InventoriesAreEntries : Type 0
InventoriesAreEntries = (bytes : List ℕ) (m : Entries) (rest : List ℕ) → (inventory_of bytes ≡ Ok (m, rest)) ↔ IsInventory bytes m rest
