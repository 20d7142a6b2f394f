use Rattle.std.proofs.Common.{◌+◌, length}
use Rattle.preset_rules.proofs.Stars.{Starred}
use Rattle.preset_rules.proofs.pattern.matches_behind_star.Given as goal

-- what is left after the last star decides
abbrev pub invariant-loop-pattern : goal.invariant-loop-pattern
invariant-loop-pattern l = (Starred l.pattern l.text → Starred l.fn.pattern l.fn.text) × (Starred l.fn.pattern l.fn.text → Starred l.pattern l.text)

abbrev pub decreases-loop-pattern : goal.decreases-loop-pattern
decreases-loop-pattern l = length l.pattern + length l.text
