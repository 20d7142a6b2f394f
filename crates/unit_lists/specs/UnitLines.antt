-- The states of units, and what preset files say of them: systemctl(1), "list-unit-files";
-- systemd.preset(5).
use Rattle.std.specs.Prelude.{ℕ, Bool, true, false, if◌then◌else◌, List, Option, Some, None, codes}
use Rattle.link_tree.specs.Trees.{Entries}
use Rattle.preset_rules.specs.declared.rule.Rule.{Rule}
use Rattle.preset_rules.specs.declared.rule.Verdict.{Verdict}
use Rattle.preset_rules.specs.declared.rule.Verdict.TheVariants as verdicts
use Rattle.preset_rules.specs.Files.{policy_of}
use Rattle.preset_rules.specs.Verdicts.{verdict}
use Rattle.footprint.specs.declared.answer.StateWord.{StateWord}
use Rattle.footprint.specs.declared.answer.StateWord.TheVariants as states
use Rattle.states.specs.IsEnabled.{state_word}
use Rattle.unit_lists.specs.declared.unit_line.PresetWord.{PresetWord}
use Rattle.unit_lists.specs.declared.unit_line.PresetWord.TheVariants as presets
use Rattle.unit_lists.specs.declared.unit_line.UnitLine.{UnitLine}

abbrev pub preset_text : PresetWord → List ℕ
preset_text presets.Enabled = codes "enabled"
preset_text presets.Disabled = codes "disabled"
preset_text presets.Ignored = codes "ignored"

-- the word for a state in a list: "bad" for a name whose links lead nowhere
abbrev pub listed_state_text : StateWord → List ℕ
listed_state_text states.NotFound = codes "bad"
listed_state_text states.Masked = codes "masked"
listed_state_text states.MaskedRuntime = codes "masked-runtime"
listed_state_text states.Alias = codes "alias"
listed_state_text states.Enabled = codes "enabled"
listed_state_text states.EnabledRuntime = codes "enabled-runtime"
listed_state_text states.Linked = codes "linked"
listed_state_text states.LinkedRuntime = codes "linked-runtime"
listed_state_text states.Static = codes "static"
listed_state_text states.Indirect = codes "indirect"
listed_state_text states.Disabled = codes "disabled"

-- whether what preset files say is shown for units of this state
abbrev pub shows_preset : StateWord → Bool
shows_preset states.Alias = false
shows_preset states.Static = false
shows_preset states.NotFound = true
shows_preset states.Masked = true
shows_preset states.MaskedRuntime = true
shows_preset states.Enabled = true
shows_preset states.EnabledRuntime = true
shows_preset states.Linked = true
shows_preset states.LinkedRuntime = true
shows_preset states.Indirect = true
shows_preset states.Disabled = true

-- a line with instances too enables the unit
abbrev pub preset_word : Verdict → PresetWord
preset_word (verdicts.Enable instances) = presets.Enabled
preset_word verdicts.Disable = presets.Disabled
preset_word verdicts.Ignore = presets.Ignored

-- what is shown for a unit of a state
abbrev pub preset_shown : StateWord → Verdict → Option PresetWord
preset_shown state verdict = if shows_preset state then Some (preset_word verdict) else None

-- the state of a unit, as is-enabled answers
abbrev pub state_of : Entries → (name : List ℕ) → StateWord
state_of t name = (state_word name).conclusion t

-- the line of a unit, by these rules
abbrev pub line_by : Entries → List Rule → (name : List ℕ) → UnitLine
line_by t rules name = record { name = name; state = state_of t name; preset = preset_shown (state_of t name) (verdict rules name) }

-- The line of a unit: its state, and what the preset files of the tree say of it.
abbrev pub line_of : Entries → (name : List ℕ) → UnitLine
line_of t name = line_by t ((policy_of t).conclusion t) name
