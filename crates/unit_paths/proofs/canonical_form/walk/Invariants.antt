use Rattle.std.proofs.Common.{◌≡◌, ◌+◌, ◌<◌, length}
use Rattle.std.specs.List.{slice_split}
use Rattle.smallvec.specs.SmallVec.{small_vec_len}
use Rattle.unit_paths.specs.declared.canonical_form.TheConstants.{WALK_BYTES}
use Rattle.unit_paths.specs.Paths.{is_slash}
use Rattle.unit_paths.specs.Canonical.{walked}
use Rattle.unit_paths.proofs.canonical_form.walk.Given as goal

-- walking the rest has the same result as walking the whole, and there is enough capacity for it
abbrev pub invariant-parts : goal.invariant-parts
invariant-parts l = record {
  walked : walked l.text.items (slice_split is_slash l.rest) ≡ walked l.fn.text.items (slice_split is_slash l.fn.target);
  inline : l.fn.text.capacity ≡ WALK_BYTES → small_vec_len l.fn.text + length l.fn.target < WALK_BYTES → (l.text.capacity ≡ WALK_BYTES) × (small_vec_len l.text + length l.rest < WALK_BYTES);
}

abbrev pub decreases-parts : goal.decreases-parts
decreases-parts l = length l.rest
