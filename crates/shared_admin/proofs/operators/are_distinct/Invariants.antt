use Rattle.shared_admin.proofs.Distinct.{AreApart}
use Rattle.shared_admin.proofs.operators.are_distinct.Given as goal

-- none of those before this one occurs again
abbrev pub invariant-loop-place : goal.invariant-loop-place
invariant-loop-place l = AreApart l.fn.operators l.place
