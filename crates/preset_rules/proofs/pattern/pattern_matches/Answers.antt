use Rattle.preset_rules.specs.Patterns.{is_matched}
use Rattle.preset_rules.proofs.Tried.{matched_if, matched_then}
use Rattle.preset_rules.proofs.MatchSteps.{same_tests}
use Rattle.preset_rules.proofs.pattern.pattern_matches.Goals as goal

pub returns-clause-value : goal.returns-clause-value
returns-clause-value c =
    same_tests c.matches_whole.result (is_matched c.args.pattern.now c.args.text.now)
    (λ is. matched_then c.args.pattern.now c.args.text.now (c.matches_whole.ensures.yes is))
    (λ is. c.matches_whole.ensures.no (matched_if c.args.pattern.now c.args.text.now is))
