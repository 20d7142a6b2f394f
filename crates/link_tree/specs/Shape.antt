-- Where the entries of a tree may be.
use Rattle.std.specs.Prelude.{◌≡◌, ℕ, Bool, true, false, not, ◌&&◌, List, Some, is_some}
use Rattle.std.specs.List.{list_any}
use Rattle.std.specs.FinMap as map
use Rattle.unit_paths.specs.Paths.{is_path}
use Rattle.unit_paths.specs.Shape.{is_bad_shape, is_close}
use Rattle.link_tree.specs.Values.{is_entry}
use Rattle.link_tree.specs.Trees.{Entries}
use Rattle.link_tree.specs.declared.entry.Entry.{Entry}

-- whether an entry is beneath the path, or the path beneath an entry
unfoldable pub is_crowded : Entries → List ℕ → Bool
is_crowded m path = list_any (is_close path) (map.keys m)

-- whether an entry is allowed at the path
unfoldable pub fits_at : List ℕ → Entry → Bool
fits_at path entry = is_path path && is_entry entry && not (is_bad_shape path)

-- Each entry is allowed at its path, and none is beneath another.
pub record IsTree (m : Entries) : Type 0 where
  pub fits : (path : List ℕ) (entry : Entry) → map.get m path ≡ Some entry → fits_at path entry ≡ true
  pub apart : (path other : List ℕ) → is_some (map.get m path) ≡ true → is_some (map.get m other) ≡ true → is_close path other ≡ false
