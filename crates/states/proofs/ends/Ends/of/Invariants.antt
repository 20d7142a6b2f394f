use Rattle.states.proofs.Ended.{AreEndsOf}
use Rattle.states.proofs.ends.Ends.of.Given as goal

-- the steps of the remaining links are still to be added
abbrev pub invariant-loop-path : goal.invariant-loop-path
invariant-loop-path l = AreEndsOf l.reverse l.ends l.path-iterator l.initial.path-iterator
