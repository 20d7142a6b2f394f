use Rattle.std.proofs.Common.{◌≡◌, sym, ◌∙◌, Bool, true, false, refl}
use Rattle.preset_rules.proofs.MatchSteps.{whole_to_star, to_end, fails}
use Rattle.preset_rules.proofs.pattern.matches_whole.Goals as goal

pub returns-in-Some-clause-yes : goal.returns-in-Some-clause-yes
returns-in-Some-clause-yes c =
    let step = whole_to_star c.args.pattern.now c.args.text.now c.along.result.0.now c.along.result.1.now c.along.ensures.pattern c.along.ensures.text c.in-Some.rest.now c.in-Some.ensures.star in
    λ is. step.0 (c.matches_behind_star.ensures.yes is)

pub returns-in-Some-clause-no : goal.returns-in-Some-clause-no
returns-in-Some-clause-no c =
    let step = whole_to_star c.args.pattern.now c.args.text.now c.along.result.0.now c.along.result.1.now c.along.ensures.pattern c.along.ensures.text c.in-Some.rest.now c.in-Some.ensures.star in
    λ matches. c.matches_behind_star.ensures.no (step.1 matches)

pub returns-in-None-clause-yes : goal.returns-in-None-clause-yes
returns-in-None-clause-yes c = λ is. to_end c.args.pattern.now c.args.text.now c.along.result.0.now c.along.result.1.now c.along.ensures.pattern c.along.ensures.text (sym c.are_ended.ensures ∙ is)

pub returns-in-None-clause-no : goal.returns-in-None-clause-no
returns-in-None-clause-no c = λ matches.
    elim c.are_ended.result as (λ (e : Bool). c.are_ended.result ≡ e → e ≡ true) [
      | true ↦ λ is. refl
      | false ↦ λ is. absurd (fails c.args.pattern.now c.args.text.now c.along.result.0.now c.along.result.1.now c.along.ensures.pattern c.along.ensures.text c.in-None.ensures.star (sym c.are_ended.ensures ∙ is) matches)
    ] refl
