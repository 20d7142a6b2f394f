use Rattle.std.proofs.Common.{◌≡◌}
use Rattle.preset_rules.proofs.RuleLists.{with_lines}
use Rattle.preset_rules.proofs.line.push_rules.Given as goal

-- the remaining lines add to the rules what all lines add to those at the beginning
abbrev pub invariant-loop-line : goal.invariant-loop-line
invariant-loop-line l = with_lines l.rules.items l.line-iterator ≡ with_lines l.fn.rules.items l.initial.line-iterator
