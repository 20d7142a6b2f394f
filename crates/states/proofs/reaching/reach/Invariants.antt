use Rattle.std.proofs.Common.{◌^◌, ◌-◌}
use Rattle.states.specs.Dependencies.{next_names}
use Rattle.states.specs.Reaching.{ends_at}
use Rattle.states.proofs.Walks.{IsPast}
use Rattle.states.proofs.reaching.reach.Given as goal

abbrev pub invariant-loop-name : goal.invariant-loop-name
invariant-loop-name l = IsPast (next_names l.reverse (ends_at l.ends)) l.from l.found l.place

abbrev pub decreases-loop-name : goal.decreases-loop-name
decreases-loop-name l = 2 ^ 63 - l.place
