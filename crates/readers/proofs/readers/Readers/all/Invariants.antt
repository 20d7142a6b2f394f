use Rattle.std.proofs.Common.{◌++◌, ◌-◌, List, ℕ}
use Rattle.readers.specs.Numbers.{AreAllAfter}
use Rattle.readers.specs.Readers.{is_touched_in}
use Rattle.readers.proofs.readers.Readers.all.Given as goal

-- the numbers that are still to come belong after the numbers so far
abbrev pub invariant-loop-n : goal.invariant-loop-n
invariant-loop-n l = (more : List ℕ) → AreAllAfter (is_touched_in l.self l.change) l.last more → AreAllAfter (is_touched_in l.self l.change) 0 (l.numbers.items ++ more)

abbrev pub decreases-loop-n : goal.decreases-loop-n
decreases-loop-n l = 4294967296 - l.last
