-- Wanted links are at slots.
use Rattle.std.specs.Prelude.{◌≡◌, ℕ, true, List, Some}
use Rattle.std.specs.FinMap as map
use Rattle.unit_paths.specs.Slots.{is_slot}
use Rattle.link_tree.specs.Trees.{path_cmp}

-- Links by their paths: the path of the file to which each leads.
abbrev pub LinkMap : Type 0
LinkMap = map.FinMap path_cmp (List ℕ)

abbrev pub AreAtSlots : LinkMap → Type 0
AreAtSlots links = (path file : List ℕ) → map.get links path ≡ Some file → is_slot path ≡ true
