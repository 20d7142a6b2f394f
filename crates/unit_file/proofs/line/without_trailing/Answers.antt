use Rattle.std.proofs.Common.{◌≡◌, ◌-◌, ◌+◌, ◌<◌, get_or, false, length, ap, sym, take, arith, rules, tests}
use Rattle.std.proofs.lemmas.List.Sums.{suffix_len_is}
use Rattle.std.specs.List.{suffix_len}
use Rattle.unit_file.specs.Lines.{is_blank}
use Rattle.unit_file.proofs.line.without_trailing.Goals as goal

pub returns-then-not-is_blank : goal.returns-then-not-is_blank
returns-then-not-is_blank c =
    let text = c.args.text.now in
    let i = c.loop-i.i in
    let place : i - 1 + 1 - 1 ≡ i - 1 = omega arith in
    let stop : 0 < i - 1 + 1 → is_blank (get_or text (i - 1 + 1 - 1) 0) ≡ false = λ _. rw place (search (rules, tests)) in
    let len = suffix_len_is is_blank text (i - 1 + 1) 0 (omega arith) (λ k from below. c.loop-i.invariant k (omega arith) below) stop in
    ap (λ n. take n text) (omega (arith, len))

pub returns : goal.returns
returns c =
    let text = c.args.text.now in
    let len = suffix_len_is is_blank text 0 0 (omega arith) (λ k from below. c.loop-i.invariant k (omega arith) below) (λ below. absurd (omega arith)) in
    let none : length text - suffix_len is_blank text ≡ 0 = omega (arith, len) in
    sym (ap (λ n. take n text) none)
