use Rattle.std.proofs.Common.{◌≡◌, ◌==◌, false, ℕ, ◌<◌, ◌≤◌, length, get_or}
use Rattle.unit_name.proofs.cut.cut_at_last.Given as goal

-- none from here on
abbrev pub invariant-loop-i : goal.invariant-loop-i
invariant-loop-i l = (k : ℕ) → l.i ≤ k → k < length l.text → (get_or l.text k 0 == l.byte) ≡ false
