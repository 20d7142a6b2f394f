use Rattle.std.proofs.Common.{◌≡◌, ◌==◌, false, ℕ, ◌<◌, get_or}
use Rattle.unit_name.proofs.cut.cut_at_first.Given as goal

-- none so far
abbrev pub invariant-loop-i : goal.invariant-loop-i
invariant-loop-i l = (k : ℕ) → k < l.i → (get_or l.text k 0 == l.byte) ≡ false
