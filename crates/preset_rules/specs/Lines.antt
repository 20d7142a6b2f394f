-- Lines of preset files: systemd.preset(5), "Preset File Format".
use Rattle.std.specs.Prelude.{ℕ, Bool, if◌then◌else◌, List, [], ◌∷◌, ◌++◌, take, drop, Option, Some, None, codes, ◌&&◌}
use Rattle.std.specs.List.{position, filter_map}
use Rattle.std.specs.Str.{bytes_eq}
use Rattle.std.specs.Str.Lines.{lines}
use Rattle.unit_name.specs.Name.{is_unit_name}
use Rattle.unit_file.specs.Lines.{is_blank, stripped}
use Rattle.unit_file.specs.Install.{is_empty, words}
use Rattle.unit_file.specs.Listed.{is_template_name}
use Rattle.preset_rules.specs.declared.rule.Rule.{Rule}
use Rattle.preset_rules.specs.declared.rule.Rule.TheVariants.{Enable, Disable, Ignore}

-- the first word, and what follows it without the blanks around that
abbrev pub cut_at : List ℕ → Option ℕ → List ℕ × List ℕ
cut_at text None = (text, [])
cut_at text (Some at) = (take at text, stripped (drop at text))

unfoldable pub first_word : List ℕ → List ℕ × List ℕ
first_word text = cut_at text (position is_blank text)

-- whether a text is the name of a template
unfoldable pub names_template : List ℕ → Bool
names_template text = is_unit_name text && is_template_name text

-- "enable", a pattern, which is one word, and the names of instances, which only a template can
-- have
abbrev pub with_instances : (pattern : List ℕ) → List (List ℕ) → Option Rule
with_instances pattern [] = Some (Enable pattern [])
with_instances pattern (instance ∷ instances) = if names_template pattern then Some (Enable pattern (instance ∷ instances)) else None

abbrev pub enable_rule : (rest : List ℕ) → Option Rule
enable_rule rest = let cut = first_word rest in if is_empty cut.0 then None else with_instances cut.0 (words cut.1)

-- "disable", and a pattern, which is all the rest of the line
abbrev pub disable_rule : List ℕ → Option Rule
disable_rule rest = if is_empty rest then None else Some (Disable rest)

-- "ignore" and a pattern, in the same way
abbrev pub ignore_rule : List ℕ → Option Rule
ignore_rule rest = if is_empty rest then None else Some (Ignore rest)

abbrev pub rule_from : (word rest : List ℕ) → Option Rule
rule_from word rest =
    if bytes_eq word (codes "enable") then enable_rule rest
    else if bytes_eq word (codes "disable") then disable_rule rest
    else if bytes_eq word (codes "ignore") then ignore_rule rest
    else None

-- The rule of a line, without the blanks at its ends. Any other line has no rule, also an empty
-- one, and one that begins with # or ;, since neither begins with one of the three words.
unfoldable pub rule_of : List ℕ → Option Rule
rule_of line = let cut = first_word (stripped line) in rule_from cut.0 cut.1

-- rules with one more, if there is one
abbrev pub with_rule : List Rule → Option Rule → List Rule
with_rule rules None = rules
with_rule rules (Some rule) = rules ++ rule ∷ []

-- The rules of a file, in the order of its lines. A line ends at LF, and a CR before that is a
-- blank.
unfoldable pub rules_of : List ℕ → List Rule
rules_of bytes = filter_map rule_of (lines bytes)
