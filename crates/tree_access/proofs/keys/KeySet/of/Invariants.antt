use Rattle.tree_access.proofs.KeySets.{AreGathered}
use Rattle.tree_access.proofs.keys.KeySet.of.Given as goal

abbrev pub invariant-loop-key : goal.invariant-loop-key
invariant-loop-key l = AreGathered l.these l.key-iterator l.fn.keys
