use Rattle.std.proofs.Common.{◌≡◌, ◌++◌, drop}
use Rattle.footprint.proofs.changes.Changes.copy.Given as goal

abbrev pub invariant-loop-change : goal.invariant-loop-change
invariant-loop-change l = l.copy ++ drop l.change-index l.change-items ≡ l.change-items
