use Rattle.std.proofs.Common.{◌≡◌, ◌++◌, drop}
use Rattle.tree_access.proofs.reading.Reading.copy.Given as goal

abbrev pub invariant-loop-observation : goal.invariant-loop-observation
invariant-loop-observation l = l.copy ++ drop l.observation-index l.observation-items ≡ l.observation-items
