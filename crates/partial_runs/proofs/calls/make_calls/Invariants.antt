use Rattle.std.proofs.Common.{◌≡◌, [], take, length}
use Rattle.history.specs.Rows.{run}
use Rattle.partial_runs.proofs.calls.make_calls.Given as goal

-- the rows of the calls so far, one for each
abbrev pub invariant-loop-operator : goal.invariant-loop-operator
invariant-loop-operator g l =
    (l.history.first ≡ l.fn.tree) × (l.history.limit ≡ 1000000) × (l.history.rows ≡ run g.O.Operation.asks g.O.Operation.meaning l.fn.tree [] (take l.operator-index l.calls))
    × (length l.history.rows ≡ l.operator-index)
