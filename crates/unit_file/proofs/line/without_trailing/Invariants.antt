use Rattle.std.proofs.Common.{◌≡◌, true, ℕ, ◌<◌, ◌≤◌, length, get_or}
use Rattle.unit_file.specs.Lines.{is_blank}
use Rattle.unit_file.proofs.line.without_trailing.Given as goal

-- blanks from here on
abbrev pub invariant-loop-i : goal.invariant-loop-i
invariant-loop-i l = (k : ℕ) → l.i ≤ k → k < length l.text → is_blank (get_or l.text k 0) ≡ true
