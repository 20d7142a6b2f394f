-- Laws of presets, each the contract of a public function.
use Rattle.std.specs.Prelude.{◌≡◌, ℕ, true, false, List, [], ◌∷◌, ◌++◌, All, ◌⊎◌, None, codes}
use Rattle.std.specs.FinMap as map
use Rattle.unit_paths.specs.Slots.{slot_of}
use Rattle.link_tree.specs.Trees.{Entries}
use Rattle.load_path.specs.Search.{SameAt, each_once}
use Rattle.preset_rules.specs.declared.rule.Rule.{Rule}
use Rattle.preset_rules.specs.declared.rule.Rule.TheVariants.{Disable}
use Rattle.preset_rules.specs.declared.rule.Verdict.{Verdict}
use Rattle.preset_rules.specs.declared.rule.Verdict.TheVariants as verdicts
use Rattle.preset_rules.specs.Files.{presets_of, policy_of}
use Rattle.unit_paths.specs.Kinds.{is_preset}
use Rattle.preset_rules.specs.Lines.{rules_of}
use Rattle.preset_rules.specs.Verdicts.{applies, given, verdict}

-- A policy depends only on the entries at the preset slots and in its cells.
abbrev pub PoliciesAgree : Type 0
PoliciesAgree = (t u : Entries) → presets_of t ≡ presets_of u → SameAt (each_once ((policy_of t).cells t)) t u
    → ((policy_of t).conclusion t ≡ (policy_of u).conclusion u) × (each_once ((policy_of t).cells t) ≡ each_once ((policy_of u).cells u))

-- The part of a tree at its preset slots has the same policy as the tree.
abbrev pub PresetsDecide : Type 0
PresetsDecide = (t : Entries) → policy_of (presets_of t) ≡ policy_of t

-- none of these rules applies
abbrev pub NoneApplies : List ℕ → List Rule → Type 0
NoneApplies name rules = All (λ rule. applies name rule ≡ false) rules

-- a verdict is that of a rule that applies and before which none does, or, if none applies, that
-- the unit is enabled
abbrev pub IsSaid : List Rule → List ℕ → Verdict → Type 0
IsSaid rules name said =
    ((before : List Rule) × (rule : Rule) × (after : List Rule) × (rules ≡ before ++ rule ∷ after) × NoneApplies name before × (applies name rule ≡ true) × (said ≡ given name rule))
    ⊎ (NoneApplies name rules × (said ≡ verdicts.Enable []))

abbrev pub FirstRuleDecides : Type 0
FirstRuleDecides = (rules : List Rule) (name : List ℕ) → IsSaid rules name (verdict rules name)

-- With no rules each unit is enabled.
abbrev pub NoRulesEnable : Type 0
NoRulesEnable = (name : List ℕ) → verdict [] name ≡ verdicts.Enable []

-- If the last rule applies to a unit and is to disable it, it does so exactly if no earlier rule
-- applies.
abbrev pub LastRuleDecides : Type 0
LastRuleDecides = (rules : List Rule) (pattern name : List ℕ) → NoneApplies name rules → applies name (Disable pattern) ≡ true → verdict (rules ++ Disable pattern ∷ []) name ≡ verdicts.Disable

-- The earlier rules decide, and if none of them applies, the later ones do.
abbrev pub EarlierRulesDecide : Type 0
EarlierRulesDecide = (rules more : List Rule) (name : List ℕ) →
    (NoneApplies name rules → verdict (rules ++ more) name ≡ verdict more name) × (¬ NoneApplies name rules → verdict (rules ++ more) name ≡ verdict rules name)

abbrev pub disable_all : Rule
disable_all = Disable (codes "*")

-- A file with the single line "disable *" has only this rule.
abbrev pub LineDisablesAll : Type 0
LineDisablesAll = rules_of (codes "disable *") ≡ disable_all ∷ []

-- A last line "disable *" disables exactly the units to which no earlier rule applies: for all
-- others the verdict stays the same.
abbrev pub RestIsDisabled : Type 0
RestIsDisabled = (rules : List Rule) (name : List ℕ) →
    (NoneApplies name rules → verdict (rules ++ disable_all ∷ []) name ≡ verdicts.Disable) × (¬ NoneApplies name rules → verdict (rules ++ disable_all ∷ []) name ≡ verdict rules name)

-- A tree has no preset files if there is no entry at any of their slots.
abbrev pub HasNoPresets : Entries → Type 0
HasNoPresets t = (path : List ℕ) → is_preset (slot_of path) ≡ true → map.get t path ≡ None

-- Such a tree has no rules, no link is followed for them, and each unit is enabled, without
-- instances.
abbrev pub NoPresetsEnable : Type 0
NoPresetsEnable = (t : Entries) → HasNoPresets t →
    ((policy_of t).conclusion t ≡ []) × ((policy_of t).cells t ≡ []) × ((name : List ℕ) → verdict ((policy_of t).conclusion t) name ≡ verdicts.Enable [])
