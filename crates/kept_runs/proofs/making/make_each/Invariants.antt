use Rattle.std.proofs.Common.{◌≡◌}
use Rattle.kept_runs.proofs.MadeCalls.{WereMade}
use Rattle.kept_runs.proofs.making.make_each.Given as goal

-- the calls so far were made
abbrev pub invariant-loop-call : goal.invariant-loop-call
invariant-loop-call l =
    WereMade l.fn.history.first l.fn.history.rows l.yielded l.history.first l.history.rows × (l.history.limit ≡ l.fn.history.limit)
