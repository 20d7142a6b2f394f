use Rattle.std.proofs.Common.{take}
use Rattle.tree_access.specs.Readings.{HoldsIn}
use Rattle.tree_access.proofs.reading.agrees.Given as goal

-- the observations before this one hold
abbrev pub invariant-loop-observation : goal.invariant-loop-observation
invariant-loop-observation l = HoldsIn l.tree (take l.observation-index l.observation-items)
