use Rattle.row_makers.proofs.Last.{UpTo}
use Rattle.row_makers.proofs.makers.maker_in.Given as goal

abbrev pub invariant-loop-place : goal.invariant-loop-place
invariant-loop-place g l = UpTo g.O.Operation.asks l.rows l.path l.place l.found
