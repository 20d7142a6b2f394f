-- Laws of paths and links, each the contract of a public function.
use Rattle.std.specs.Prelude.{◌≡◌, ◌≢◌, ◌↔◌, ℕ, true, false, List, [], ◌∷◌, ◌++◌}
use Rattle.std.specs.List.{list_all, list_any, slice_split}
use Rattle.unit_paths.specs.Paths.{is_path, is_text_byte, is_slash, parent}
use Rattle.unit_paths.specs.Canonical.{with_part, walked, start_of, merged, canonical_text, fits}
use Rattle.unit_paths.specs.Shape.{is_beneath, is_under_slot, is_bad_shape, is_close}
use Rattle.unit_paths.specs.Slots.{is_slot}
use Prim.Native.Char.{code}

-- A link leads to a path, unless it leads to the root or to a path that is too long.
abbrev pub CanonicalIsPath : Type 0
CanonicalIsPath = (link target : List ℕ) → is_path link ≡ true → list_all is_text_byte target ≡ true → is_path (canonical_text link target) ≡ fits (canonical_text link target)

-- where a target leads, before /lib/systemd/ is read as /usr/lib/systemd/
abbrev pub led : List ℕ → List ℕ → List ℕ
led link target = walked (start_of link target) (slice_split is_slash target)

-- A target is resolved part by part: symlink(7), path_resolution(7).
pub record LeadsByParts : Type 0 where
  -- an absolute path leads to itself
  pub itself : (link path : List ℕ) → is_path path ≡ true → led link path ≡ path
  -- a single part is looked up in the link's directory
  pub single : (link part : List ℕ) → list_any is_slash part ≡ false → led link part ≡ with_part (parent link) part
  -- One more part leads from where the target so far leads: to that part there, for `..` to the
  -- directory above (at the root, to the root), and for `.` or an empty part to the same place.
  pub onward : (link target part : List ℕ) → target ≢ [] → list_any is_slash part ≡ false → led link (target ++ code "/" ∷ part) ≡ with_part (led link target) part
  -- then /lib/systemd/ is read as /usr/lib/systemd/
  pub merges : (link target : List ℕ) → canonical_text link target ≡ merged (led link target)

-- A path lies beneath another if it begins with the other and a slash.
abbrev pub BeneathGoesOn : Type 0
BeneathGoesOn = (path above : List ℕ) → (is_beneath path above ≡ true) ↔ ((rest : List ℕ) × (path ≡ above ++ code "/" ∷ rest))

-- A path is under a slot if it lies beneath one.
abbrev pub UnderIsBeneathSlot : Type 0
UnderIsBeneathSlot = (path : List ℕ) → (is_under_slot [] path ≡ true) ↔ ((slot : List ℕ) × (is_slot slot ≡ true) × (is_beneath path slot ≡ true))

-- A path is of bad shape exactly if a slot lies above it or beneath it.
abbrev pub BadShapeIsCloseToSlot : Type 0
BadShapeIsCloseToSlot = (path : List ℕ) → (is_bad_shape path ≡ true) ↔ ((slot : List ℕ) × (is_slot slot ≡ true) × (is_close path slot ≡ true))

abbrev pub PathsLieBeneath : Type 0
PathsLieBeneath = BeneathGoesOn × UnderIsBeneathSlot
