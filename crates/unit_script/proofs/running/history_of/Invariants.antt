use Rattle.std.proofs.Common.{◌≡◌, length}
use Rattle.unit_script.specs.Machine.{rows_of}
use Rattle.unit_script.proofs.running.history_of.Given as goal

-- the rows of the calls so far, one for each
abbrev pub invariant-loop-call : goal.invariant-loop-call
invariant-loop-call l =
    (l.history.first ≡ l.fn.tree) × (l.history.limit ≡ 1000000) × (l.history.rows ≡ rows_of l.fn.tree l.yielded)
    × (length l.history.rows ≡ length l.yielded)
