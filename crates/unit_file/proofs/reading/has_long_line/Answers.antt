use Rattle.std.proofs.Common.{◌≡◌, map, sym, ap, ◌∙◌, arith}
use Rattle.bstr.specs.Text.{lines_of, without_terminator}
use Rattle.unit_file.specs.Lines.{joined, joined_lines}
use Rattle.unit_file.specs.Reading.{has_long_line}
use Rattle.unit_file.proofs.PhysicalLines.{lines_same}
use Rattle.unit_file.proofs.Joining.{kept, is_long_after, long-none, long-end, long-carried, long-ended, long-found}
use Rattle.unit_file.proofs.reading.has_long_line.Goals as goal

pub loop-line-init : goal.loop-line-init
loop-line-init c =
    let start : c.into_iter-line-iterator.result ≡ map without_terminator (lines_of c.args.bytes.now) = cc in
    (omega arith, ap (λ it. is_long_after 0 (joined (kept it))) (start ∙ lines_same c.args.bytes.now) ∙ long-none (joined_lines c.args.bytes.now))

pub returns-then-line-carried : goal.returns-then-line-carried
unfolding has_long_line
returns-then-line-carried c =
    let found = long-found c.loop-line.carried c.in-Some.line.now c.next.new.self (sym c.is_comment.ensures ∙ c.if-not-is_comment.true) (omega arith) in
    sym found ∙ ap (λ it. is_long_after c.loop-line.carried (joined (kept it))) (sym c.in-Some.ensures.steps) ∙ c.loop-line.invariant.1

pub loop-line-preserved-in-Some-before_backslash : goal.loop-line-preserved-in-Some-before_backslash
loop-line-preserved-in-Some-before_backslash c =
    let carried = long-carried c.loop-line.carried c.in-Some.line.now c.next.new.self (sym c.is_comment.ensures ∙ c.if-not-is_comment.true) c.in-Some-before_backslash.ensures.0 in
    (omega arith, sym carried ∙ ap (λ it. is_long_after c.loop-line.carried (joined (kept it))) (sym c.in-Some.ensures.steps) ∙ c.loop-line.invariant.1)

pub loop-line-preserved-in-None-before_backslash : goal.loop-line-preserved-in-None-before_backslash
loop-line-preserved-in-None-before_backslash c =
    let ended = long-ended c.loop-line.carried c.in-Some.line.now c.next.new.self (sym c.is_comment.ensures ∙ c.if-not-is_comment.true) c.in-None-before_backslash.ensures (omega arith) in
    (omega arith, sym ended ∙ ap (λ it. is_long_after c.loop-line.carried (joined (kept it))) (sym c.in-Some.ensures.steps) ∙ c.loop-line.invariant.1)

pub returns : goal.returns
unfolding has_long_line
returns c =
    sym (long-end c.loop-line.carried c.loop-line.invariant.0)
    ∙ ap (λ it. is_long_after c.loop-line.carried (joined (kept it))) (sym c.in-None.ensures.steps.0)
    ∙ c.loop-line.invariant.1
