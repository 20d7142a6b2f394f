-- The notices of preset.
use Rattle.std.proofs.Common.{◌≡◌, ℕ, true, List, [], ◌⊎◌, ◌↔◌, Contains, Some, None, Result, Ok, Err, refl, sym, subst, ◌∙◌, inl, inr}
use Rattle.std.specs.FinMap as map
use Rattle.unit_file.specs.declared.notice.Notice.{Notice}
use Rattle.unit_file.specs.Notices.{NoticeMap, line_cmp, notice_line}
use Rattle.link_tree.specs.Trees.{Entries}
use Rattle.install_section.proofs.Least.{IsTold, none_of}
use Rattle.tree_access.specs.declared.refusal.Refusal.{Refusal}
use Rattle.footprint.specs.Commands.{Command, carried_out}
use Rattle.footprint.specs.Inquiry.{over}
use Rattle.install_commands.specs.declared.preset.Preset.{Preset}
use Rattle.install_commands.specs.Check.{going_on}
use Rattle.install_commands.specs.CompositeLaws.{Counts, rules_of}
use Rattle.install_commands.specs.Disable.{units_named, links_removed}
use Rattle.install_commands.specs.Laws.{Leaves}
use Rattle.install_commands.specs.Preset.{bad_instance, carried_through, judged_by, judged_disabled, judged_enabled, judged_named, none_judged, preset_judges, preset_meaning, telling_too}
use Rattle.install_commands.proofs.Verdicts.{said_of, counted}
use Rattle.notice_laws.specs.Installs.{DisableNotices, EnableNotices, Judges, ListsBadly, PresetNotices, PresetReports}
use Rattle.notice_laws.specs.Installs.PresetNotices.{BadInstance, Disabling, Enabling}
use Rattle.notice_laws.specs.Reports.{Reports}
use Rattle.notice_laws.proofs.Disabling.{Names, names_told}
use Rattle.notice_laws.proofs.Enabling.{enabling}
use Rattle.notice_laws.proofs.InTurn.{both_report}
use Rattle.notice_laws.proofs.Listing.{Verdicts, all_told, only_told}
use Rattle.notice_laws.proofs.Told.{AreTold, both_told, reports_as, reports_refused, unless_reports}

-- an instance that is listed gives no valid name
data IsListed (preset : Preset) (t : Entries) : Notice → Type 0 where
  Bad : (template instance : List ℕ) → Contains preset.units template → Counts t template → ListsBadly (rules_of t) template instance → IsListed preset t (bad_instance template instance)

module _ (preset : Preset) (t : Entries) where
  abbrev Listed : Notice → Type 0
  Listed = IsListed preset t

  module _ (judged : Verdicts) (is : (preset_judges preset).conclusion t ≡ Ok judged) where
    abbrev units : List (List ℕ)
    units = (said_of preset t judged is).units

    counts : (unit : List ℕ) → Contains units unit → Contains preset.units unit × Counts t unit
    counts unit here = elim ((counted t preset.units [] units (said_of preset t judged is).count unit).0 here) [ inl none ↦ absurd (none_of [] unit refl none) | inr so ↦ (so.0, so.1) ]

    among : (unit : List ℕ) → Contains preset.units unit → Counts t unit → Contains units unit
    among unit here count = (counted t preset.units [] units (said_of preset t judged is).count unit).1 (inr (here, count))

    abbrev these : Verdicts
    these = judged_by (rules_of t) units none_judged

    bad_told : (notice : Notice) → Listed notice → IsTold these.notices (notice_line notice)
    bad_told notice (Bad template instance here count lists) = all_told (rules_of t) template instance lists units none_judged (among template here count)

    listed_told : AreTold judged.notices Listed
    listed_told = subst (λ (j : Verdicts). AreTold j.notices Listed) (sym (said_of preset t judged is).are) (record {
      all = bad_told;
      only = only_told (rules_of t) Listed units none_judged
          (λ template instance here lists. let so = counts template here in Bad template instance so.0 so.1 lists)
          (λ line notice there. let none : None ≡ Some notice = sym (map.get-empty {X = Notice} line_cmp line) ∙ there in cc);
    })

    -- the two parts
    abbrev first : Command
    first = judged_disabled preset.scope judged

    abbrev second : Command
    second = judged_enabled preset.scope judged

    abbrev One : Notice → Type 0
    One notice = Listed notice ⊎ DisableNotices judged.disabled t notice

    abbrev Other : Entries → Notice → Type 0
    Other v = EnableNotices judged.enabled v

    abbrev Later : Notice → Type 0
    Later notice = (v : Entries) × Leaves (carried_out first) t v × Other v notice

    by_names : (named : Names) (given : Result Names Refusal) → (units_named judged.disabled).conclusion t ≡ given → (going_on (λ named. over (Ok (telling_too judged.notices named))) given).conclusion t ≡ Ok named
        → AreTold named.notices One
    by_names named (Ok given) at ends =
        let same : telling_too judged.notices given ≡ named = cc in
        subst (λ (n : Names). AreTold n.notices One) same
        (both_told judged.notices given.notices Listed (DisableNotices judged.disabled t) listed_told (names_told judged.disabled t given at))
    by_names named (Err refusal) at ends = cc

    disables : Reports ((carried_out first).conclusion t).answer One
    disables = unless_reports One (links_removed preset.scope) t ((judged_named judged.disabled judged.notices).conclusion t) (λ named ends. by_names named ((units_named judged.disabled).conclusion t) refl ends)

    enables : (v : Entries) → Leaves (carried_out first) t v → Reports ((carried_out second).conclusion v).answer (Other v)
    enables v leaves = enabling preset.scope true judged.enabled v

    -- there are no other verdicts
    same_verdicts : (given : Result Verdicts Refusal) (other : Verdicts) → given ≡ Ok judged → given ≡ Ok other → other ≡ judged
    same_verdicts given other one two = cc

    own : (disabled enabled : List (List ℕ)) (notices : NoticeMap) → Judges preset t disabled enabled notices → record { disabled = disabled; enabled = enabled; notices = notices } ≡ judged
    own disabled enabled notices judges = same_verdicts ((preset_judges preset).conclusion t) (record { disabled = disabled; enabled = enabled; notices = notices }) is judges

    apart : (notice : Notice) → PresetNotices preset t notice → One notice ⊎ Later notice
    apart notice (BadInstance template instance here count lists) = inl (inl (Bad template instance here count lists))
    apart notice (Disabling disabled enabled notices _ judges tells) = inl (inr (subst (λ (j : Verdicts). DisableNotices j.disabled t notice) (own disabled enabled notices judges) tells))
    apart notice (Enabling disabled enabled notices v _ judges leaves tells) =
        let same = own disabled enabled notices judges in
        inr (v, subst (λ (j : Verdicts). Leaves (carried_out (judged_disabled preset.scope j)) t v) same leaves, subst (λ (j : Verdicts). EnableNotices j.enabled v notice) same tells)

    of_listed : (notice : Notice) → Listed notice → PresetNotices preset t notice
    of_listed notice (Bad template instance here count lists) = BadInstance template instance here count lists

    same : (notice : Notice) → (One notice ⊎ Later notice) ↔ PresetNotices preset t notice
    same notice = (
      λ so. elim so [
        | inl now ↦ elim now [
          | inl listed ↦ of_listed notice listed
          | inr tells ↦ Disabling judged.disabled judged.enabled judged.notices notice is tells
        ]
        | inr later ↦ Enabling judged.disabled judged.enabled judged.notices later.0 notice is later.1 later.2
      ],
      apart notice,
    )

    both : Reports ((carried_through preset.scope (Ok judged)).conclusion t).answer (PresetNotices preset t)
    both = reports_as ((carried_through preset.scope (Ok judged)).conclusion t).answer (λ notice. One notice ⊎ Later notice) (PresetNotices preset t) same
        (both_report first second t One Other disables enables)

  by_judged : (given : Result Verdicts Refusal) → (preset_judges preset).conclusion t ≡ given → Reports ((carried_through preset.scope given).conclusion t).answer (PresetNotices preset t)
  by_judged (Ok judged) is = both judged is
  by_judged (Err refusal) is = reports_refused (PresetNotices preset t) refusal

  pub presetting : Reports ((preset_meaning preset).conclusion t).answer (PresetNotices preset t)
  presetting = by_judged ((preset_judges preset).conclusion t) refl

pub preset_reports : PresetReports
preset_reports preset t = presetting preset t
