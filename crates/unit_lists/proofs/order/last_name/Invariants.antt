use Rattle.std.proofs.Common.{◌≡◌, false, ℕ, ◌<◌, ◌≤◌, length, get_or}
use Rattle.unit_lists.specs.Order.{is_nul}
use Rattle.unit_lists.proofs.order.last_name.Given as goal

-- no NUL from here on
abbrev pub invariant-loop-i : goal.invariant-loop-i
invariant-loop-i l = (k : ℕ) → l.i ≤ k → k < length l.text → is_nul (get_or l.text k 0) ≡ false
