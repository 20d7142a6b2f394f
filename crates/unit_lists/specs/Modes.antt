-- Which units a preset is for: systemctl(1), "--preset-mode=".
use Rattle.std.specs.Prelude.{ℕ, Bool, true, false, List}
use Rattle.std.specs.List.{filter}
use Rattle.link_tree.specs.Trees.{Entries}
use Rattle.preset_rules.specs.declared.rule.Rule.{Rule}
use Rattle.preset_rules.specs.declared.rule.Verdict.{Verdict}
use Rattle.preset_rules.specs.declared.rule.Verdict.TheVariants as verdicts
use Rattle.preset_rules.specs.Files.{policy_of}
use Rattle.preset_rules.specs.Verdicts.{verdict}
use Rattle.unit_lists.specs.declared.mode.Mode.{Mode}
use Rattle.unit_lists.specs.declared.mode.Mode.TheVariants.{Full, EnableOnly, DisableOnly}

-- whether a unit of which the preset files say this is one of the mode's
abbrev pub is_in_mode : Mode → Verdict → Bool
is_in_mode Full said = true
is_in_mode EnableOnly (verdicts.Enable instances) = true
is_in_mode EnableOnly verdicts.Disable = false
is_in_mode EnableOnly verdicts.Ignore = false
is_in_mode DisableOnly (verdicts.Enable instances) = false
is_in_mode DisableOnly verdicts.Disable = true
is_in_mode DisableOnly verdicts.Ignore = false

abbrev pub names_by : Mode → List Rule → (names : List (List ℕ)) → List (List ℕ)
names_by mode rules names = filter (λ name. is_in_mode mode (verdict rules name)) names

-- Those of the units that a preset with this mode is for, by the preset files of the tree.
abbrev pub names_in_mode : Entries → Mode → (names : List (List ℕ)) → List (List ℕ)
names_in_mode t mode names = names_by mode ((policy_of t).conclusion t) names
