use Rattle.std.proofs.Common.{◌≡◌}
use Rattle.states.specs.Dependencies.{set_of}
use Rattle.states.proofs.Ordered.{without}
use Rattle.states.proofs.reaching.Names.set_without.Given as goal

-- the remaining names are added to the set, except one
abbrev pub invariant-loop-name : goal.invariant-loop-name
invariant-loop-name l = without l.left_out (set_of l.set.keys) l.name-iterator ≡ without l.left_out (set_of l.initial.set.keys) l.initial.name-iterator
