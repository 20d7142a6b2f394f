use Rattle.std.proofs.Common.{ap, sym, ◌∙◌}
use Rattle.preset_rules.proofs.MatchSteps.{along_taken, along_stops}
use Rattle.preset_rules.proofs.pattern.along.Goals as goal

pub loop-left-preserved : goal.loop-left-preserved
loop-left-preserved c = along_taken c.loop-left.pattern.now c.loop-left.text.now (c.in-Some.left.now, c.in-Some.rest.now) c.in-Some.ensures.taken ∙ c.loop-left.invariant

pub returns-clause-pattern : goal.returns-clause-pattern
returns-clause-pattern c = ap (λ x. x.0) (sym (along_stops c.loop-left.pattern.now c.loop-left.text.now c.in_default.ensures.taken) ∙ c.loop-left.invariant)

pub returns-clause-text : goal.returns-clause-text
returns-clause-text c = ap (λ x. x.1) (sym (along_stops c.loop-left.pattern.now c.loop-left.text.now c.in_default.ensures.taken) ∙ c.loop-left.invariant)
