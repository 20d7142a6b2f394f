-- Enabling and disabling units as the preset files say: systemctl(1), "preset", and
-- systemd.preset(5).
use Rattle.std.specs.Prelude.{ℕ, Bool, not, true, false, if◌then◌else◌, List, [], ◌∷◌, ◌++◌, Option, Some, None, Result, Ok, Err}
use Rattle.std.specs.Str.{bytes_eq}
use Rattle.std.specs.FinMap as map
use Rattle.unit_file.specs.declared.notice.Notice.{Notice}
use Rattle.unit_file.specs.declared.notice.NoticeKey.TheVariants as notice_keys
use Rattle.unit_file.specs.declared.notice.Reason.TheVariants.{BadName}
use Rattle.unit_file.specs.Listed.{is_template_name}
use Rattle.unit_file.specs.Notices.{NoticeMap, with_notice, joined}
use Rattle.unit_paths.specs.declared.place.Scope.{Scope}
use Rattle.load_path.specs.Find.{find}
use Rattle.load_path.specs.RealNames.{put_in}
use Rattle.install_section.specs.declared.section.Section.{Section}
use Rattle.install_section.specs.Sections.{section_of, is_empty}
use Rattle.preset_rules.specs.declared.rule.Rule.{Rule}
use Rattle.preset_rules.specs.declared.rule.Verdict.{Verdict}
use Rattle.preset_rules.specs.declared.rule.Verdict.TheVariants.{Enable, Disable, Ignore}
use Rattle.preset_rules.specs.Files.{policy_of}
use Rattle.preset_rules.specs.Verdicts.{verdict}
use Rattle.footprint.specs.declared.answer.Answer.TheVariants.{Refused}
use Rattle.tree_access.specs.declared.key.Key.TheVariants.{Presets}
use Rattle.tree_access.specs.declared.refusal.Refusal.{Refusal}
use Rattle.footprint.specs.Commands.{Command, unless_refused, carried_out}
use Rattle.footprint.specs.Inquiry.{Inquiry, over, by_cells, entries_seen, giving, ◌>>=◌}
use Rattle.footprint.specs.Operations.{Effect}
use Rattle.footprint.specs.Then.{followed_by}
use Rattle.footprint.specs.Units.{found_unit}
use Rattle.install_commands.specs.declared.disable.Named.{Named}
use Rattle.install_commands.specs.declared.judging.Judged.{Judged}
use Rattle.install_commands.specs.declared.preset.Preset.{Preset}
use Rattle.install_commands.specs.Check.{going_on}
use Rattle.install_commands.specs.Disable.{units_named, links_removed}
use Rattle.install_commands.specs.Enable.{units_enabled}

-- whether a section names a unit or asks for a link
abbrev pub asks : Option Section → Bool
asks (Some section) = not (is_empty section)
asks None = false

-- whether a unit that was found with this name as its own is no alias, and its section names a unit
-- or asks for a link
abbrev pub found_counts : (name real : List ℕ) → Inquiry Bool
found_counts name real = if bytes_eq real name then giving (by_cells (section_of name)) asks else over false

-- whether presets apply to a unit
abbrev pub counts : (name : List ℕ) → Inquiry (Result Bool Refusal)
counts name = do
  unit ← giving (by_cells (find name)) (found_unit name)
  going_on (λ unit. giving (found_counts name unit.0) (λ here. Ok here)) unit

-- Those of the units to which presets apply, in order, after these, up to a unit that isn't found.
abbrev pub counting_behind : (names : List (List ℕ)) → (units : List (List ℕ)) → Inquiry (Result (List (List ℕ)) Refusal)
counting_behind names [] = over (Ok names)
counting_behind names (unit ∷ units) = do
  here ← counts unit
  going_on (λ here. counting_behind (if here then names ++ unit ∷ [] else names) units) here

-- the notice about an instance that is listed for a template but doesn't give a valid unit name
abbrev pub bad_instance : (template instance : List ℕ) → Notice
bad_instance template instance = record { unit = template; key = notice_keys.Preset; word = instance; reason = BadName }

-- adds a unit that will be enabled
abbrev pub with_one : (unit : List ℕ) → Judged → Judged
with_one unit judged = record judged { enabled = judged.enabled ++ unit ∷ [] }

abbrev pub with_disabled : (unit : List ℕ) → Judged → Judged
with_disabled unit judged = record judged { disabled = judged.disabled ++ unit ∷ [] }

-- adds a template with a listed instance to the units that will be enabled, if that is a valid name
abbrev pub with_listed : (template instance : List ℕ) → Judged → Option (List ℕ) → Judged
with_listed template instance judged (Some unit) = with_one unit judged
with_listed template instance judged None = record judged { notices = with_notice judged.notices (bad_instance template instance) }

abbrev pub with_all_listed : (template : List ℕ) → Judged → (instances : List (List ℕ)) → Judged
with_all_listed template judged [] = judged
with_all_listed template judged (instance ∷ instances) = with_all_listed template (with_listed template instance judged (put_in template (Some instance))) instances

-- Adds a unit that the presets enable; if instances are listed for a template, each of them is
-- enabled instead of it.
abbrev pub with_enabled : (unit : List ℕ) → Judged → (instances : List (List ℕ)) → Judged
with_enabled unit judged [] = with_one unit judged
with_enabled unit judged (instance ∷ instances) = if is_template_name unit then with_all_listed unit judged (instance ∷ instances) else with_one unit judged

-- adds a unit by what the presets say about it
abbrev pub with_unit : (unit : List ℕ) → Judged → Verdict → Judged
with_unit unit judged Disable = with_disabled unit judged
with_unit unit judged Ignore = judged
with_unit unit judged (Enable instances) = with_enabled unit judged instances

abbrev pub judged_by : List Rule → (units : List (List ℕ)) → Judged → Judged
judged_by rules [] judged = judged
judged_by rules (unit ∷ units) judged = judged_by rules units (with_unit unit judged (verdict rules unit))

abbrev pub none_judged : Judged
none_judged = record { disabled = []; enabled = []; notices = map.empty }

-- which units to disable and which to enable, by the preset files of the tree
abbrev pub units_judged : (units : List (List ℕ)) → Inquiry Judged
units_judged units = do
  presets ← entries_seen Presets
  giving (by_cells (policy_of presets)) (λ rules. judged_by rules units none_judged)

-- the verdicts of a preset, in the tree in which it begins
abbrev pub preset_judges : Preset → Inquiry (Result Judged Refusal)
preset_judges preset = do
  units ← counting_behind [] preset.units
  going_on (λ units. giving (units_judged units) (λ judged. Ok judged)) units

-- adds these notices
abbrev pub telling_too : NoticeMap → Named → Named
telling_too notices named = record named { notices = joined notices named.notices }

-- the names of the units to disable, with the notices about instances
abbrev pub judged_named : (disabled : List (List ℕ)) → NoticeMap → Inquiry (Result Named Refusal)
judged_named disabled notices = do
  named ← units_named disabled
  going_on (λ named. over (Ok (telling_too notices named))) named

-- disables units, with the notices about instances too
abbrev pub disabled_telling : Scope → (disabled : List (List ℕ)) → NoticeMap → Command
disabled_telling scope disabled notices = do
  named ← judged_named disabled notices
  unless_refused (links_removed scope) named

-- The first part: the units to disable are disabled,
abbrev pub judged_disabled : Scope → Judged → Command
judged_disabled scope judged = disabled_telling scope judged.disabled judged.notices

-- and then the others are enabled; a word that would need an instance asks for nothing.
abbrev pub judged_enabled : Scope → Judged → Command
judged_enabled scope judged = units_enabled scope true judged.enabled

abbrev pub carried_through : Scope → Result Judged Refusal → Inquiry Effect
carried_through scope (Ok judged) = followed_by (carried_out (judged_disabled scope judged)) (carried_out (judged_enabled scope judged))
carried_through scope (Err refusal) = over (record { answer = Refused refusal; changes = [] })

-- What the command looks up in a tree, and what effect it has.
abbrev pub preset_meaning : Preset → Inquiry Effect
preset_meaning preset = do
  judged ← preset_judges preset
  carried_through preset.scope judged
