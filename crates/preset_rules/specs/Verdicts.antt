-- What rules say about a unit: systemd.preset(5), "Preset File Format".
use Rattle.std.specs.Prelude.{ℕ, Bool, false, ◌||◌, ◌&&◌, if◌then◌else◌, List, [], ◌∷◌, Option, Some, None}
use Rattle.std.specs.List.{find, list_any}
use Rattle.std.specs.Option.{option_map_or}
use Rattle.std.specs.Str.{bytes_eq}
use Rattle.unit_name.specs.declared.kind.Kind.{Kind}
use Rattle.unit_name.specs.declared.kind.Kind.TheVariants.{Instance}
use Rattle.unit_name.specs.Name.{instance_of, template_of}
use Rattle.unit_name.specs.Parts.{kind_of}
use Rattle.preset_rules.specs.declared.rule.Rule.{Rule}
use Rattle.preset_rules.specs.declared.rule.Rule.TheVariants.{Enable, Disable, Ignore}
use Rattle.preset_rules.specs.declared.rule.Verdict.{Verdict}
use Rattle.preset_rules.specs.declared.rule.Verdict.TheVariants as verdicts
use Rattle.preset_rules.specs.Patterns.{is_matched}

-- the template of an instance
abbrev pub own_template : Kind → List ℕ → Option (List ℕ)
own_template Instance name = Some (template_of name)
own_template other name = None

-- an instance whose template is named, and which is among those that are listed
abbrev pub is_listed : (name pattern : List ℕ) (instances : List (List ℕ)) → Option (List ℕ) → Bool
is_listed name pattern instances None = false
is_listed name pattern instances (Some template) = bytes_eq pattern template && option_map_or (λ instance. list_any (bytes_eq instance) instances) (instance_of name) false

-- Whether a rule applies to a name. Without instances, it applies if the pattern matches the name.
-- With instances, it applies if the pattern is the name itself, or if the name is a listed instance
-- of the template that the pattern names.
abbrev pub applies_with : (name pattern : List ℕ) → List (List ℕ) → Bool
applies_with name pattern [] = is_matched pattern name
applies_with name pattern (instance ∷ instances) = bytes_eq pattern name || is_listed name pattern (instance ∷ instances) (own_template (kind_of (instance_of name)) name)

unfoldable pub applies : (name : List ℕ) → Rule → Bool
applies name (Disable pattern) = is_matched pattern name
applies name (Ignore pattern) = is_matched pattern name
applies name (Enable pattern instances) = applies_with name pattern instances

-- What a rule says about a name to which it applies. Instances are those with which a template is
-- enabled.
unfoldable pub given : (name : List ℕ) → Rule → Verdict
given name (Disable pattern) = verdicts.Disable
given name (Ignore pattern) = verdicts.Ignore
given name (Enable pattern instances) = if bytes_eq pattern name then verdicts.Enable instances else verdicts.Enable []

-- The first rule that applies decides; if none does, a unit is enabled.
unfoldable pub verdict : List Rule → (name : List ℕ) → Verdict
verdict rules name = option_map_or (given name) (find (applies name) rules) (verdicts.Enable [])
