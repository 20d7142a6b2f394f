-- Lines of preset files, as a relation between a line and its rule: systemd.preset(5), "Preset File
-- Format".
use Rattle.std.specs.Prelude.{◌≡◌, ◌≢◌, ◌↔◌, ℕ, List, [], ◌∷◌, ◌++◌, Some, None, codes}
use Rattle.unit_name.specs.Parts.{Parts, IsSpelledBy}
use Rattle.preset_rules.specs.declared.rule.Rule.{Rule}
use Rattle.preset_rules.specs.declared.rule.Rule.TheVariants.{Enable, Disable, Ignore}
use Rattle.preset_rules.specs.Lines.{rule_of, rules_of}
use Rattle.line_laws.specs.Blanks.{AreBlanks, IsGap, AreWordsOf, IsBare}
use Rattle.line_laws.specs.FileLines.{AreLinesOf}

-- The name of a template: a unit name with an empty instance.
abbrev pub IsTemplate : List ℕ → Type 0
IsTemplate text = (parts : Parts) × IsSpelledBy text parts × (parts.instance ≡ Some [])

-- A line that consists of this word and a pattern, which is all that follows the word. Blanks may
-- be around both, and within the pattern.
pub record IsOfPattern (word line pattern : List ℕ) : Type 0 where
  pub before : List ℕ
  pub gap : List ℕ
  pub after : List ℕ
  pub is : line ≡ before ++ word ++ gap ++ pattern ++ after
  pub blanks_before : AreBlanks before
  pub apart : IsGap gap
  pub some : pattern ≢ []
  pub bare : IsBare pattern
  pub blanks_after : AreBlanks after

-- A line has this rule.
pub data IsRuleOf : (line : List ℕ) (rule : Rule) → Type 0 where
  -- "enable", a pattern, which is one word, and the names of instances, which only a template can
  -- have
  Enables : (line pattern : List ℕ) (instances : List (List ℕ)) → AreWordsOf line (codes "enable" ∷ pattern ∷ instances) → (instances ≢ [] → IsTemplate pattern) → IsRuleOf line (Enable pattern instances)
  -- "disable", and a pattern
  Disables : (line pattern : List ℕ) → IsOfPattern (codes "disable") line pattern → IsRuleOf line (Disable pattern)
  -- "ignore", and a pattern
  Ignores : (line pattern : List ℕ) → IsOfPattern (codes "ignore") line pattern → IsRuleOf line (Ignore pattern)

-- The rule that is read from a line is the one that it has; if none is read, it has none.
pub record PresetLinesAreRead : Type 0 where
  pub a_rule : (line : List ℕ) (rule : Rule) → (rule_of line ≡ Some rule) ↔ IsRuleOf line rule
  pub no_rule : (line : List ℕ) → (rule_of line ≡ None) ↔ ((rule : Rule) → ¬ IsRuleOf line rule)

-- The rules of lines, in the order of the lines. A line that has none says nothing: an empty one, a
-- comment, or one that is anything else.
pub data AreRules : (lines : List (List ℕ)) (rules : List Rule) → Type 0 where
  NoneLeft : AreRules [] []
  OneRule : (line : List ℕ) (rule : Rule) (lines : List (List ℕ)) (rules : List Rule) → IsRuleOf line rule → AreRules lines rules → AreRules (line ∷ lines) (rule ∷ rules)
  NoRule : (line : List ℕ) (lines : List (List ℕ)) (rules : List Rule) → ((rule : Rule) → ¬ IsRuleOf line rule) → AreRules lines rules → AreRules (line ∷ lines) rules

-- The rules of a file.
pub record AreRulesOf (bytes : List ℕ) (rules : List Rule) : Type 0 where
  pub lines : List (List ℕ)
  pub are_lines : AreLinesOf bytes lines
  pub are_rules : AreRules lines rules

-- The rules that are read from a file are its rules, and no others.
abbrev pub PresetFilesAreRead : Type 0
PresetFilesAreRead = (bytes : List ℕ) (rules : List Rule) → (rules_of bytes ≡ rules) ↔ AreRulesOf bytes rules
