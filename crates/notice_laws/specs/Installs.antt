-- What the commands that install units report, each the contract of a public function: systemctl(1),
-- "enable", "disable", "reenable" and "preset".
use Rattle.std.specs.Prelude.{◌≡◌, ℕ, true, List, Contains, None, Some, Ok}
use Rattle.unit_file.specs.declared.notice.Notice.{Notice}
use Rattle.unit_file.specs.declared.notice.NoticeKey.TheVariants as keys
use Rattle.unit_file.specs.declared.notice.Reason.{Reason}
use Rattle.unit_file.specs.Listed.{is_template_name}
use Rattle.unit_file.specs.Notices.{NoticeMap}
use Rattle.link_tree.specs.Trees.{Entries}
use Rattle.load_path.specs.RealNames.{put_in}
use Rattle.install_section.specs.declared.section.Section.{Section}
use Rattle.install_section.specs.Closure.{Reached}
use Rattle.install_section.specs.Sections.{identity_in, section_of}
use Rattle.install_section.specs.Words.{skipped}
use Rattle.preset_rules.specs.declared.rule.Rule.{Rule}
use Rattle.preset_rules.specs.declared.rule.Verdict.TheVariants as verdicts
use Rattle.preset_rules.specs.Verdicts.{verdict}
use Rattle.footprint.specs.Commands.{carried_out}
use Rattle.install_commands.specs.declared.disable.Disable.{Disable}
use Rattle.install_commands.specs.declared.enable.Enable.{Enable}
use Rattle.install_commands.specs.declared.preset.Preset.{Preset}
use Rattle.install_commands.specs.declared.reenable.Reenable.{Reenable}
use Rattle.install_commands.specs.CompositeLaws.{Counts, rules_of}
use Rattle.install_commands.specs.Disable.{disable_meaning}
use Rattle.install_commands.specs.Enable.{enable_meaning}
use Rattle.install_commands.specs.Laws.{GoesWith, Leaves}
use Rattle.install_commands.specs.Preset.{bad_instance, disabled_telling, preset_judges, preset_meaning}
use Rattle.install_commands.specs.Reenable.{reenable_disables, reenable_meaning}
use Rattle.notice_laws.specs.Skipped.{IsNoName, IncludesNone, GivesNone}
use Rattle.notice_laws.specs.Reports.{AlwaysReports}

-- A unit's file has this [Install] section.
abbrev pub HasSection : Entries → (unit : List ℕ) → Section → Type 0
HasSection t unit section = (section_of unit).conclusion t ≡ Some section

-- disable: of each unit that is included with those that are given, a word of `Also=` that includes
-- no unit. It reads no other list.
pub data DisableNotices (units : List (List ℕ)) (t : Entries) : Notice → Type 0 where
  Also : (unit word : List ℕ) (section : Section) (reason : Reason) → GoesWith t units unit → HasSection t unit section → Contains section.text.also word → IncludesNone t (identity_in unit section) word reason
      → DisableNotices units t (skipped unit keys.Also word reason)

abbrev pub DisableReports : Type 0
DisableReports = AlwaysReports disable_meaning (λ (disable : Disable) t. DisableNotices disable.units t)

-- enable: of each unit that is reached from those that are given, a word of `Also=` that includes no
-- unit; a word of `WantedBy=`, `RequiredBy=` or `UpheldBy=` that is no unit's name; and a word of
-- `Alias=` that gives no alias. It doesn't matter in which scope, or what is at the links' paths.
pub data EnableNotices (units : List (List ℕ)) (t : Entries) : Notice → Type 0 where
  Also : (unit word : List ℕ) (section : Section) (reason : Reason) → Reached t units unit → HasSection t unit section → Contains section.text.also word → IncludesNone t (identity_in unit section) word reason
      → EnableNotices units t (skipped unit keys.Also word reason)
  WantedBy : (unit word : List ℕ) (section : Section) (reason : Reason) → Reached t units unit → HasSection t unit section → Contains section.text.wanted_by word → IsNoName (identity_in unit section) word reason
      → EnableNotices units t (skipped unit keys.WantedBy word reason)
  RequiredBy : (unit word : List ℕ) (section : Section) (reason : Reason) → Reached t units unit → HasSection t unit section → Contains section.text.required_by word → IsNoName (identity_in unit section) word reason
      → EnableNotices units t (skipped unit keys.RequiredBy word reason)
  UpheldBy : (unit word : List ℕ) (section : Section) (reason : Reason) → Reached t units unit → HasSection t unit section → Contains section.text.upheld_by word → IsNoName (identity_in unit section) word reason
      → EnableNotices units t (skipped unit keys.UpheldBy word reason)
  Alias : (unit word : List ℕ) (section : Section) (reason : Reason) → Reached t units unit → HasSection t unit section → Contains section.text.alias word → GivesNone unit (identity_in unit section) word reason
      → EnableNotices units t (skipped unit keys.Alias word reason)

abbrev pub EnableReports : Type 0
EnableReports = AlwaysReports enable_meaning (λ (enable : Enable) t. EnableNotices enable.units t)

-- reenable: what a disable reports; and what an enable reports in the tree that the disable part
-- leaves.
pub data ReenableNotices (reenable : Reenable) (t : Entries) (notice : Notice) : Type 0 where
  Disabling : DisableNotices reenable.units t notice → ReenableNotices reenable t notice
  Enabling : (v : Entries) → Leaves (carried_out (reenable_disables reenable)) t v → EnableNotices reenable.units v notice → ReenableNotices reenable t notice

abbrev pub ReenableReports : Type 0
ReenableReports = AlwaysReports reenable_meaning ReenableNotices

-- Rules enable a template with an instance that doesn't give a valid name: systemd.preset(5).
pub record ListsBadly (rules : List Rule) (template instance : List ℕ) : Type 0 where
  pub instances : List (List ℕ)
  pub enables : verdict rules template ≡ verdicts.Enable instances
  pub listed : Contains instances instance
  pub is_template : is_template_name template ≡ true
  pub invalid : put_in template (Some instance) ≡ None

-- A preset begins with these verdicts: the units to disable, and those to enable.
abbrev pub Judges : Preset → Entries → (disabled enabled : List (List ℕ)) → NoticeMap → Type 0
Judges preset t disabled enabled notices = (preset_judges preset).conclusion t ≡ Ok (record { disabled = disabled; enabled = enabled; notices = notices })

-- preset: of each template that counts, an instance that a preset file lists for it, if that doesn't
-- give a valid name; what a disable of the units to disable reports; and what an enable of those to
-- enable reports, in the tree that the disable part leaves.
pub data PresetNotices (preset : Preset) (t : Entries) : Notice → Type 0 where
  BadInstance : (template instance : List ℕ) → Contains preset.units template → Counts t template → ListsBadly (rules_of t) template instance → PresetNotices preset t (bad_instance template instance)
  Disabling : (disabled enabled : List (List ℕ)) (notices : NoticeMap) (notice : Notice) → Judges preset t disabled enabled notices → DisableNotices disabled t notice → PresetNotices preset t notice
  Enabling : (disabled enabled : List (List ℕ)) (notices : NoticeMap) (v : Entries) (notice : Notice) → Judges preset t disabled enabled notices
      → Leaves (carried_out (disabled_telling preset.scope disabled notices)) t v → EnableNotices enabled v notice → PresetNotices preset t notice

abbrev pub PresetReports : Type 0
PresetReports = AlwaysReports preset_meaning PresetNotices
