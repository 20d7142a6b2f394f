-- Which names are listed, as the contract of a public function: systemctl(1), "list-unit-files".
use Rattle.std.specs.Prelude.{◌≡◌, ◌↔◌, ℕ, true, false, List, Some, Contains}
use Rattle.std.specs.FinMap as map
use Rattle.unit_name.specs.Name.{is_unit_name}
use Rattle.unit_paths.specs.declared.place.Place.{Place}
use Rattle.unit_paths.specs.Slots.{unit_slot}
use Rattle.link_tree.specs.declared.entry.Entry.{Entry}
use Rattle.link_tree.specs.Trees.{Entries}
use Rattle.unit_lists.specs.UnitFiles.{is_hidden, unit_files}

-- An entry of a unit's name, which doesn't begin with a dot, is in one of the directories of units.
abbrev pub HasEntry : Entries → (name : List ℕ) → Type 0
HasEntry t name = (is_unit_name name ≡ true) × (is_hidden name ≡ false) × ((place : Place) × (entry : Entry) × (map.get t (unit_slot place name) ≡ Some entry))

-- Exactly these names are listed.
abbrev pub NamesWithEntriesAreListed : Type 0
NamesWithEntriesAreListed = (t : Entries) (name : List ℕ) → Contains (unit_files t) name ↔ HasEntry t name
