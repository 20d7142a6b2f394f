-- The rules of lines, one after another.
use Rattle.std.proofs.Common.{◌≡◌, refl, ℕ, List, [], ◌∷◌, ◌++◌, Option, Some, None, sym, ap, ◌∙◌, append_assoc}
use Rattle.std.proofs.lemmas.List.{append-nil}
use Rattle.std.specs.List.{filter_map}
use Rattle.preset_rules.specs.declared.rule.Rule.{Rule}
use Rattle.preset_rules.specs.Lines.{rule_of, with_rule}

abbrev pub with_lines : List Rule → List (List ℕ) → List Rule
with_lines rules [] = rules
with_lines rules (line ∷ lines) = with_lines (with_rule rules (rule_of line)) lines

abbrev onto : Option Rule → List Rule → List Rule
onto None rules = rules
onto (Some rule) rules = rule ∷ rules

with_rule_is : (rules more : List Rule) (rule : Option Rule) → with_rule rules rule ++ more ≡ rules ++ onto rule more
with_rule_is rules more None = refl
with_rule_is rules more (Some rule) = append_assoc rules (rule ∷ []) more

onto_is : (line : List ℕ) (lines : List (List ℕ)) → onto (rule_of line) (filter_map rule_of lines) ≡ filter_map rule_of (line ∷ lines)
onto_is line lines =
    elim (rule_of line) as (λ o. rule_of line ≡ o → onto o (filter_map rule_of lines) ≡ filter_map rule_of (line ∷ lines)) [
      | None ↦ λ none. rw none refl
      | Some rule ↦ λ some. rw some refl
    ] refl

pub with_lines_is : (rules : List Rule) (lines : List (List ℕ)) → with_lines rules lines ≡ rules ++ filter_map rule_of lines
with_lines_is rules [] = sym (append-nil rules)
with_lines_is rules (line ∷ lines) =
    with_lines_is (with_rule rules (rule_of line)) lines ∙ with_rule_is rules (filter_map rule_of lines) (rule_of line) ∙ ap (λ more. rules ++ more) (onto_is line lines)
