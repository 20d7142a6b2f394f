use Rattle.std.proofs.Common.{◌≡◌, ℕ, true, ◌&&◌, ◌||◌, drop}
use Rattle.std.specs.Prelude.{not}
use Rattle.std.specs.BTreeMap.{is_at}
use Rattle.std.specs.Ordering.{nat_cmp}
use Rattle.tree_access.specs.declared.key.Key.{Key}
use Rattle.readers.specs.Readers.{reads, is_read}
use Rattle.readers.proofs.readers.Readers.add_keys.Given as goal

abbrev pub invariant-loop-observation : goal.invariant-loop-observation
invariant-loop-observation l =
    ((k : Key) (i : ℕ) → ((is_read (drop l.observation-index l.reading) k && is_at (nat_cmp l.n) i) || reads l.self k i) ≡ ((is_read l.reading k && is_at (nat_cmp l.n) i) || reads l.fn.self k i))
    × ((k : Key) (i : ℕ) → (not (is_read l.reading k && is_at (nat_cmp l.n) i) && reads l.self k i) ≡ (not (is_read l.reading k && is_at (nat_cmp l.n) i) && reads l.fn.self k i))
    × ((k : Key) → is_read (drop l.observation-index l.reading) k ≡ true → is_read l.reading k ≡ true)
