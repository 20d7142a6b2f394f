use Rattle.std.proofs.Common.{take}
use Rattle.sessions.specs.Fed.{AreOf}
use Rattle.sessions.proofs.asks.are_of.Given as goal

abbrev pub invariant-loop-ask : goal.invariant-loop-ask
invariant-loop-ask g l = AreOf l.fn.operators (take l.ask-index l.fn.asks)
