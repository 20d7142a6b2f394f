-- A slot is free: no entry conflicts with it.
use Rattle.std.proofs.Common.{◌≡◌, ℕ, true, false, not, ◌&&◌, List, Option, Some, None, refl, ◌∙◌}
use Rattle.std.specs.Prelude.{is_some}
use Rattle.std.specs.FinMap as map
use Rattle.std.specs.FinMap.{contains_key-keys}
use Rattle.std.proofs.lemmas.Bool.{false≢true, and_parts, not-true}
use Rattle.link_tree.specs.declared.entry.Entry.{Entry}
use Rattle.unit_paths.specs.Paths.{is_path}
use Rattle.link_tree.specs.Values.{is_entry}
use Rattle.unit_paths.specs.Slots.{is_slot}
use Rattle.link_tree.specs.Trees.{Entries}
use Rattle.link_tree.specs.Shape.{IsTree, fits_at, is_crowded}
use Rattle.unit_paths.specs.Shape.{is_bad_shape, is_close}
use Rattle.link_tree.proofs.Keys.{any-keys}
use Rattle.link_tree.proofs.Shapes.{crowded_is}
use Rattle.unit_paths.proofs.Slots.{slot_apart}

good_at : (m : Entries) (path : List ℕ) (o : Option Entry) → IsTree m → map.get m path ≡ o → is_some o ≡ true → is_bad_shape path ≡ false
unfolding fits_at
good_at m path None tree at some = absurd (false≢true some)
good_at m path (Some entry) tree at some = not-true (is_bad_shape path) (and_parts (is_path path && is_entry entry) (not (is_bad_shape path)) (tree.fits path entry at)).1

-- no entry conflicts with a slot
pub slot_free : (m : Entries) (slot : List ℕ) → IsTree m → is_slot slot ≡ true → is_crowded m slot ≡ false
slot_free m slot tree is = crowded_is m slot ∙ any-keys (is_close slot) (map.keys m) (λ q some. slot_apart slot q is (good_at m q (map.get m q) tree refl (contains_key-keys m q ∙ some)))
