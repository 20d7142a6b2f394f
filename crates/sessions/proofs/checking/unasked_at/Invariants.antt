use Rattle.sessions.proofs.Feeds.{HasAsked}
use Rattle.sessions.proofs.checking.unasked_at.Given as goal

-- the entries before this position match the operator's requests so far
abbrev pub invariant-loop-ask : goal.invariant-loop-ask
invariant-loop-ask g l = HasAsked l.fn.operator l.fn.entries l.fn.asks l.place l.ask-index
