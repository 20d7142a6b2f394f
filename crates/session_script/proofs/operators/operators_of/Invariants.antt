use Rattle.std.proofs.Common.{take}
use Rattle.session_script.proofs.Fewness.{AreOf}
use Rattle.session_script.proofs.operators.operators_of.Given as goal

-- the operators of the calls so far
abbrev pub invariant-loop-call : goal.invariant-loop-call
invariant-loop-call l = AreOf (take l.call-index l.fn.calls) l.operators
