use Rattle.std.proofs.Common.{arith}
use Rattle.kept_rows.proofs.OneWord.{one_word}
use Rattle.kept_rows.proofs.lines_of_others.push_text.Goals as goal

pub returns-in_default : goal.returns-in_default
returns-in_default c = rw (one_word c.args.text.now (omega (arith, c.in_default.len_at_least))) (rw c.text-in_default.ensures.text at c.push_call-in_default.ensures)
