use Rattle.std.proofs.Common.{sym, ◌∙◌, arith}
use Rattle.kept_texts.proofs.LineReadings.{line_fails, line_goes, is_cut, is_whole}
use Rattle.kept_texts.proofs.reading.read_lines.Goals as goal

pub returns-in-Err : goal.returns-in-Err
returns-in-Err c = rw c.at_line.ensures (line_fails (λ line. line.now) _ _ _ _ _ c.loop-line.invariant.1 _ c.loop-line-test.true _ c.in-Err.ensures)

pub loop-line-preserved : goal.loop-line-preserved
loop-line-preserved c = (
  omega (arith, c.loop-line.invariant.0),
  line_goes (λ line. line.now) _ _ _ _ _ c.loop-line.invariant.1 _ c.loop-line-test.true _ c.in-Ok.ensures,
)

pub returns-then-is_some : goal.returns-then-is_some
returns-then-is_some c = is_cut (λ line. line.now) _ _ _ _ _ c.loop-line.invariant.1 c.loop-line-test.false (sym c.is_some.ensures ∙ c.if-is_some.true)

pub returns : goal.returns
returns c = is_whole (λ line. line.now) _ _ _ _ _ c.loop-line.invariant.1 c.loop-line-test.false (sym c.is_some.ensures ∙ c.if-is_some.false)
