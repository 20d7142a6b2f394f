use Rattle.std.proofs.Common.{All, take}
use Rattle.sessions.specs.Fed.{IsAsked}
use Rattle.sessions.proofs.checking.first_unasked.Given as goal

abbrev pub invariant-loop-log : goal.invariant-loop-log
invariant-loop-log g l = All (IsAsked l.fn.asks) (take l.log-index l.fn.logs)
