use Rattle.std.proofs.Common.{◌≡◌, length}
use Rattle.preset_rules.specs.Walk.{along}
use Rattle.preset_rules.proofs.pattern.along.Given as goal

-- walking along the rest has the same result as walking along the whole
abbrev pub invariant-loop-left : goal.invariant-loop-left
invariant-loop-left l = along l.text l.pattern ≡ along l.fn.text l.fn.pattern

abbrev pub decreases-loop-left : goal.decreases-loop-left
decreases-loop-left l = length l.text
