use Rattle.std.proofs.Common.{◌≡◌}
use Rattle.session_script.specs.Served.{asks_of}
use Rattle.session_script.proofs.serving.asks_of.Given as goal

-- the requests of the calls so far
abbrev pub invariant-loop-call : goal.invariant-loop-call
invariant-loop-call l = l.asks ≡ asks_of l.yielded
