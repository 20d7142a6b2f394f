use Rattle.std.proofs.Common.{◌≡◌, ◌-◌, ◌++◌, false, length, take, codes, map, sym, ap, ◌∙◌}
use Rattle.bstr.specs.Text.{lines_of, without_terminator}
use Rattle.unit_file.specs.Lines.{stripped, onto_next, joined, joined_lines}
use Rattle.unit_file.specs.Steps.{inside_after, text_after, nothing}
use Rattle.unit_file.specs.Reading.{text_of}
use Rattle.unit_file.proofs.PhysicalLines.{lines_same}
use Rattle.unit_file.proofs.Joining.{kept, joined-carried, joined-ended}
use Rattle.unit_file.proofs.Folding.{read_from, read-none, read-carried, read-ended, read-end, read-all}
use Rattle.unit_file.proofs.reading.read_lines.Goals as goal

pub loop-line-init : goal.loop-line-init
loop-line-init c =
    let start : c.into_iter-line-iterator.result ≡ map without_terminator (lines_of c.args.bytes.now) = cc in
    let same = start ∙ lines_same c.args.bytes.now in
    (λ j. read_from false (c.new-text.ensures j) (onto_next (c.new-carried.ensures.items j) (joined (kept (same j)))))
    ∙ read-none false nothing (joined_lines c.args.bytes.now)

pub loop-line-preserved-in-Continue-1 : goal.loop-line-preserved-in-Continue-1
loop-line-preserved-in-Continue-1 c =
    let line = c.in-Some.line.now in
    let carries = joined-carried line c.next.new.self (sym c.is_comment.ensures ∙ c.if-is_comment.false) c.in-Some-before_backslash.ensures.0 in
    let front = c.in-Some-before_backslash.ensures.1 in
    let now = c.in_ok-carry-in-Some-before_backslash.ensures ∙ ap (λ t. (c.loop-line.carried.items ++ t) ++ codes " ") front in
    ap (λ t. read_from c.loop-line.inside c.loop-line.text (onto_next t (joined (kept c.next.new.self)))) now
    ∙ sym (read-carried c.loop-line.inside c.loop-line.text c.loop-line.carried.items (take (length line - 1) line) line c.next.new.self carries)
    ∙ ap (λ it. read_from c.loop-line.inside c.loop-line.text (onto_next c.loop-line.carried.items (joined (kept it)))) (sym c.in-Some.ensures.steps)
    ∙ c.loop-line.invariant

pub loop-line-preserved : goal.loop-line-preserved
loop-line-preserved c =
    let line = c.in-Some.line.now in
    let ends = joined-ended line c.next.new.self (sym c.is_comment.ensures ∙ c.if-is_comment.false) c.in-None-before_backslash.ensures in
    let taken = c.in_ok-inside-in-None-before_backslash.ensures in
    let whole = c.deref.ensures.value ∙ c.in_ok-extend_from_slice-in-None-before_backslash.ensures.items in
    let inside = taken.inside ∙ ap (λ t. inside_after c.loop-line.inside (stripped t)) whole in
    let text = taken.text ∙ ap (λ t. text_after c.loop-line.inside c.loop-line.text (stripped t)) whole in
    (λ j. read_from (inside j) (text j) (onto_next (c.clear.ensures.items j) (joined (kept c.next.new.self))))
    ∙ sym (read-ended c.loop-line.inside c.loop-line.text c.loop-line.carried.items line c.next.new.self ends)
    ∙ ap (λ it. read_from c.loop-line.inside c.loop-line.text (onto_next c.loop-line.carried.items (joined (kept it)))) (sym c.in-Some.ensures.steps)
    ∙ c.loop-line.invariant

pub returns : goal.returns
unfolding text_of
returns c =
    let text = c.in_ok-take_line.ensures.text ∙ ap (λ t. text_after c.loop-line.inside c.loop-line.text (stripped t)) c.deref-2.ensures.value in
    text
    ∙ sym (read-end c.loop-line.inside c.loop-line.text c.loop-line.carried.items)
    ∙ ap (λ it. read_from c.loop-line.inside c.loop-line.text (onto_next c.loop-line.carried.items (joined (kept it)))) (sym c.in-None.ensures.steps.0)
    ∙ c.loop-line.invariant
    ∙ read-all (joined_lines c.args.bytes.now)
