use Rattle.std.proofs.Common.{◌≡◌, ℕ, ◌&&◌, drop}
use Rattle.std.specs.Prelude.{not}
use Rattle.std.specs.BTreeMap.{is_at}
use Rattle.std.specs.Ordering.{nat_cmp}
use Rattle.tree_access.specs.declared.key.Key.{Key}
use Rattle.readers.specs.Readers.{reads, is_read}
use Rattle.readers.proofs.readers.Readers.remove.Given as goal

abbrev pub invariant-loop-observation : goal.invariant-loop-observation
invariant-loop-observation l =
    (k : Key) (i : ℕ) → (not (is_read (drop l.observation-index l.observation-items) k && is_at (nat_cmp l.n) i) && reads l.self k i) ≡ (not (is_read l.observation-items k && is_at (nat_cmp l.n) i) && reads l.fn.self k i)
