use Rattle.std.proofs.Common.{◌≡◌, drop}
use Rattle.states.specs.Reaching.{with_names}
use Rattle.states.proofs.reaching.Names.add_all.Given as goal

abbrev pub invariant-loop-name : goal.invariant-loop-name
invariant-loop-name l = with_names l.self (drop l.name-index l.more) ≡ with_names l.fn.self l.more
