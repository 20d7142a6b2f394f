-- The rules that are read from a preset file are its rules.
use Rattle.std.proofs.Common.{◌≡◌, refl, ℕ, List, [], ◌∷◌, Some, None, ap, ◌∙◌, subst}
use Rattle.std.specs.List.{filter_map, cons_option}
use Rattle.std.specs.Str.Lines.{lines}
use Rattle.preset_rules.specs.declared.rule.Rule.{Rule}
use Rattle.preset_rules.specs.Lines.{rule_of, rules_of}
use Rattle.line_laws.specs.PresetLines.{AreRules, AreRulesOf, PresetFilesAreRead}
use Rattle.line_laws.specs.PresetLines.AreRules.{NoneLeft, OneRule, NoRule}
use Rattle.line_laws.proofs.PhysicalCuts.{lines_are, lines_same}
use Rattle.line_laws.proofs.PresetRules.{preset_lines}

rules_are : (ls : List (List ℕ)) → AreRules ls (filter_map rule_of ls)
rules_are [] = NoneLeft
rules_are (line ∷ ls) =
    let rules = filter_map rule_of ls in
    let more = rules_are ls in
    elim (rule_of line) as (λ o. rule_of line ≡ o → AreRules (line ∷ ls) (cons_option o rules)) [
      | None ↦ λ none. NoRule line ls rules ((preset_lines.no_rule line).0 none) more
      | Some rule ↦ λ some. OneRule line rule ls rules ((preset_lines.a_rule line rule).0 some) more
    ] refl

rules_same : (ls : List (List ℕ)) (rules : List Rule) → AreRules ls rules → filter_map rule_of ls ≡ rules
rules_same ls rules NoneLeft = refl
rules_same ls rules (OneRule line rule others more has later) =
    ap (λ o. cons_option o (filter_map rule_of others)) ((preset_lines.a_rule line rule).1 has) ∙ ap (λ l. rule ∷ l) (rules_same others more later)
rules_same ls rules (NoRule line others more never later) =
    ap (λ o. cons_option o (filter_map rule_of others)) ((preset_lines.no_rule line).1 never) ∙ rules_same others more later

pub preset_files : PresetFilesAreRead
unfolding rules_of
preset_files bytes rules = (
  λ is. subst (AreRulesOf bytes) is (record { lines = lines bytes; are_lines = lines_are bytes; are_rules = rules_are (lines bytes) }),
  λ are. ap (filter_map rule_of) (lines_same bytes are.lines are.are_lines) ∙ rules_same are.lines rules are.are_rules,
)
