use Rattle.std.proofs.Common.{◌≡◌, ◌++◌}
use Rattle.states.proofs.reaching.in_order.Given as goal

abbrev pub invariant-loop-name : goal.invariant-loop-name
invariant-loop-name l = l.names ++ l.name-iterator ≡ l.initial.name-iterator
