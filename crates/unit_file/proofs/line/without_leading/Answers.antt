use Rattle.std.proofs.Common.{length, ap, sym, ◌∙◌, drop, arith, rules, tests}
use Rattle.std.proofs.lemmas.List.{take_rest, drop_all}
use Rattle.std.proofs.lemmas.List.Sums.{prefix_len_is}
use Rattle.unit_file.specs.Lines.{is_blank}
use Rattle.unit_file.proofs.line.without_leading.Goals as goal

pub returns-then-not-is_blank : goal.returns-then-not-is_blank
returns-then-not-is_blank c =
    let text = c.args.text.now in
    let at = prefix_len_is is_blank text c.loop-i.i 0 (omega arith) c.loop-i.invariant (λ _. search (rules, tests)) in
    take_rest text c.loop-i.i ∙ ap (λ n. drop n text) (sym at)

pub returns : goal.returns
returns c =
    let text = c.args.text.now in
    let at = prefix_len_is is_blank text (length text) 0 (omega arith) (λ k below. c.loop-i.invariant k (omega arith)) (λ below. absurd (omega arith)) in
    sym (ap (λ n. drop n text) at ∙ drop_all (length text) text (omega arith))
