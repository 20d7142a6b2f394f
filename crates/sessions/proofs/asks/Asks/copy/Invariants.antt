use Rattle.std.proofs.Common.{◌≡◌, take}
use Rattle.sessions.proofs.asks.Asks.copy.Given as goal

abbrev pub invariant-loop-ask : goal.invariant-loop-ask
invariant-loop-ask g l = l.copy ≡ take l.ask-index l.ask-items
