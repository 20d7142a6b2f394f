use Rattle.std.proofs.Common.{arith}
use Rattle.kept_runs.proofs.reading.history_of_input.Goals as goal

pub returns-then-len-gt-MAX_ROWS-clause-full : goal.returns-then-len-gt-MAX_ROWS-clause-full
returns-then-len-gt-MAX_ROWS-clause-full c = λ text is. (c.args.input.tree, c.args.input.calls.items, is, omega (arith, c.len.ensures, c.if-len-gt-MAX_ROWS.true))
