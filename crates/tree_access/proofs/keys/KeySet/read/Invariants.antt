use Rattle.std.proofs.Common.{◌≡◌, ◌++◌, map, All}
use Rattle.tree_access.specs.Readings.{observed}
use Rattle.tree_access.specs.Seeing.{SeesTheSame}
use Rattle.tree_access.proofs.keys.KeySet.read.Given as goal

abbrev pub invariant-loop-key : goal.invariant-loop-key
invariant-loop-key l = (l.reading ++ map (observed l.tree) l.key-iterator ≡ map (observed l.tree) l.initial.key-iterator) × All (SeesTheSame l.gathered l.tree) l.key-iterator
