use Rattle.std.proofs.Common.{◌≡◌, false, ℕ, ◌<◌, ◌≤◌, length, get_or}
use Rattle.unit_paths.specs.Paths.{is_slash}
use Rattle.link_tree.proofs.belonging.last_part.Given as goal

-- no slash from here on
abbrev pub invariant-loop-i : goal.invariant-loop-i
invariant-loop-i l = (k : ℕ) → l.i ≤ k → k < length l.target → is_slash (get_or l.target k 0) ≡ false
