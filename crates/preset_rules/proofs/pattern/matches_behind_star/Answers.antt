use Rattle.std.proofs.Common.{ap, sym, ◌∙◌, length, arith, refl, []}
use Rattle.preset_rules.proofs.Stars.{star_before}
use Rattle.preset_rules.proofs.MatchSteps.{to_star, to_end, along_short, skips, gives_up}
use Rattle.preset_rules.proofs.pattern.matches_behind_star.Goals as goal

pub returns-then-are_ended-clause-yes : goal.returns-then-are_ended-clause-yes
returns-then-are_ended-clause-yes c =
    let matches = to_end c.loop-pattern.pattern.now c.loop-pattern.text.now c.along.result.0.now c.along.result.1.now c.along.ensures.pattern c.along.ensures.text (sym c.are_ended.ensures ∙ c.if-are_ended.true) in
    λ _. c.loop-pattern.invariant.0 (star_before c.loop-pattern.pattern.now [] c.loop-pattern.text.now c.loop-pattern.text.now refl matches)

pub loop-pattern-smaller-in-Some : goal.loop-pattern-smaller-in-Some
loop-pattern-smaller-in-Some c =
    let short = along_short c.loop-pattern.text.now c.loop-pattern.pattern.now in
    let one = short.of_pattern in
    let two = short.of_text in
    omega (arith, ap length c.along.ensures.pattern, ap length c.along.ensures.text, c.in-Some.ensures.shorter)

pub loop-pattern-preserved-in-Some : goal.loop-pattern-preserved-in-Some
loop-pattern-preserved-in-Some c =
    let step = to_star c.loop-pattern.pattern.now c.loop-pattern.text.now c.along.result.0.now c.along.result.1.now c.along.ensures.pattern c.along.ensures.text c.in-Some.behind.now c.in-Some.ensures.star in
    (λ matches. c.loop-pattern.invariant.0 (step.0 matches), λ matches. step.1 (c.loop-pattern.invariant.1 matches))

pub loop-pattern-preserved : goal.loop-pattern-preserved
loop-pattern-preserved c =
    let step = skips c.loop-pattern.pattern.now c.loop-pattern.text.now c.along.result.0.now c.along.result.1.now c.in-Some-without_first.later.now c.along.ensures.pattern c.along.ensures.text c.in-None.ensures.star (sym c.are_ended.ensures ∙ c.if-are_ended.false) c.in-Some-without_first.ensures.rest in
    (λ matches. c.loop-pattern.invariant.0 (step.0 matches), λ matches. step.1 (c.loop-pattern.invariant.1 matches))

pub returns-in-None-without_first-clause-no : goal.returns-in-None-without_first-clause-no
returns-in-None-without_first-clause-no c = λ matches. absurd (gives_up c.loop-pattern.pattern.now c.loop-pattern.text.now c.along.result.0.now c.along.result.1.now c.along.ensures.pattern c.along.ensures.text c.in-None.ensures.star (sym c.are_ended.ensures ∙ c.if-are_ended.false) c.in-None-without_first.ensures.rest (c.loop-pattern.invariant.1 matches))
