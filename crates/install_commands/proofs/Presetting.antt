-- The tree that preset leaves.
use Rattle.std.proofs.Common.{◌≡◌, ℕ, true, false, List, [], Result, Ok, Err, refl, sym, ap, ◌∙◌, inr}
use Rattle.std.specs.FinMap as map
use Rattle.std.proofs.lemmas.List.Elements.{All-nil}
use Rattle.unit_file.proofs.NoticeMaps.{none-joined}
use Rattle.preset_rules.specs.declared.rule.Verdict.TheVariants as verdicts
use Rattle.preset_rules.specs.Verdicts.{applies, verdict}
use Rattle.preset_rules.proofs.Rests.{rest_is_disabled, no_presets_enable}
use Rattle.link_tree.specs.Trees.{Entries}
use Rattle.footprint.specs.declared.answer.Answer.TheVariants.{Done, Refused}
use Rattle.tree_access.specs.declared.refusal.Refusal.{Refusal}
use Rattle.footprint.specs.Commands.{Command, taken, unless_refused, carried_out}
use Rattle.footprint.specs.Inquiry.{over, giving}
use Rattle.footprint.specs.Operations.{Effect}
use Rattle.footprint.specs.Then.{followed_by}
use Rattle.install_commands.specs.declared.disable.Named.{Named}
use Rattle.install_commands.specs.declared.judging.Judged.{Judged}
use Rattle.install_commands.specs.declared.preset.Preset.{Preset}
use Rattle.install_commands.specs.Check.{going_on}
use Rattle.install_commands.specs.CompositeLaws.{LeavesInTurn, IsRefusedInTurn, rules_of, PresetInTurn, PresetEnablesAll, PresetDisablesAll}
use Rattle.install_commands.specs.Disable.{units_named, links_removed, units_disabled}
use Rattle.install_commands.specs.Enable.{units_enabled}
use Rattle.install_commands.specs.Preset.{counting_behind, judged_by, none_judged, units_judged, judged_named, judged_disabled, judged_enabled, carried_through, preset_judges, preset_meaning, telling_too}
use Rattle.install_commands.proofs.Composites.{leaves_as, leaves_in_turn, refused_in_turn, after_nothing, before_nothing}
use Rattle.install_commands.proofs.Disabled.{by_names, none_kept}
use Rattle.install_commands.proofs.Removal.{done_by, none_goes}
use Rattle.install_commands.proofs.Verdicts.{same_rules, all_enabled, all_to_disable, judges_refused}
use Rattle.install_commands.proofs.Nobody.{none_named, named_of_none, enabled_of_none}

module _ (preset : Preset) (t : Entries) where
  -- its result is that of its two parts
  module _ (judged : Judged) (is : (preset_judges preset).conclusion t ≡ Ok judged) where
    abbrev disables : Command
    disables = judged_disabled preset.scope judged

    abbrev enables : Command
    enables = judged_enabled preset.scope judged

    pub parts_come : (preset_meaning preset).conclusion t ≡ (followed_by (carried_out disables) (carried_out enables)).conclusion t
    parts_come = ap (λ judged. (carried_through preset.scope judged).conclusion t) is

    in_turn : LeavesInTurn (preset_meaning preset) disables enables t
    in_turn u = (
      λ leaves. (leaves_in_turn disables enables t u).0 (leaves_as (preset_meaning preset) (followed_by (carried_out disables) (carried_out enables)) t u parts_come leaves),
      λ turns. leaves_as (followed_by (carried_out disables) (carried_out enables)) (preset_meaning preset) t u (sym parts_come) ((leaves_in_turn disables enables t u).1 turns),
    )

    refused_so : IsRefusedInTurn (preset_meaning preset) disables enables t
    refused_so refusal = (
      λ refused. (refused_in_turn disables enables t refusal).0 (ap (λ (e : Effect). e.answer) (sym parts_come) ∙ refused),
      λ turns. ap (λ (e : Effect). e.answer) parts_come ∙ (refused_in_turn disables enables t refusal).1 turns,
    )

  refused_first : (refusal : Refusal) → (preset_judges preset).conclusion t ≡ Err refusal → ((preset_meaning preset).conclusion t).answer ≡ Refused refusal
  refused_first refusal is = ap (λ judged. ((carried_through preset.scope judged).conclusion t).answer) is

pub preset_in_turn : PresetInTurn
preset_in_turn preset t = (
  λ judged is. (in_turn preset t judged is, refused_so preset t judged is),
  judges_refused preset t,
  refused_first preset t,
)

module _ (preset : Preset) (t : Entries) (units : List (List ℕ)) (count : (counting_behind [] preset.units).conclusion t ≡ Ok units) where
  -- the verdicts, by what the rules say about the units
  judged_as : (judged : Judged) → judged_by (rules_of t) units none_judged ≡ judged → (preset_judges preset).conclusion t ≡ Ok judged
  judged_as judged same =
      ap (λ units. (going_on (λ units. giving (units_judged units) (λ judged. Ok judged)) units).conclusion t) count
      ∙ ap (λ rules. Ok (judged_by rules units none_judged)) (same_rules t) ∙ ap (λ (j : Judged). Ok j) same

  -- all are enabled
  module _ (all : (name : List ℕ) → verdict (rules_of t) name ≡ verdicts.Enable []) where
    abbrev to_enable : Judged
    to_enable = record { disabled = []; enabled = units; notices = map.empty }

    none_named_too : (judged_named [] map.empty).conclusion t ≡ Ok none_named
    none_named_too =
        ap (λ named. (going_on (λ named. over (Ok (telling_too map.empty named))) named).conclusion t) (named_of_none t)
        ∙ ap (λ notices. Ok (record { names = []; notices = notices })) (none-joined map.empty)

    none_disabled : (carried_out (judged_disabled preset.scope to_enable)).conclusion t ≡ record { answer = Done map.empty; changes = [] }
    none_disabled =
        by_names preset.scope [] t ((judged_named [] map.empty).conclusion t) ∙ ap (done_by preset.scope (none_kept preset.scope [] t) t) none_named_too
        ∙ none_goes preset.scope (none_kept preset.scope [] t) t none_named (λ path entry there. inr refl)

    enables_all : (preset_meaning preset).conclusion t ≡ (carried_out (units_enabled preset.scope true units)).conclusion t
    enables_all =
        parts_come preset t to_enable (judged_as to_enable (all_enabled (rules_of t) all units none_judged))
        ∙ after_nothing (judged_disabled preset.scope to_enable) (judged_enabled preset.scope to_enable) t none_disabled

  -- all are disabled
  module _ (all : (name : List ℕ) → verdict (rules_of t) name ≡ verdicts.Disable) where
    abbrev to_disable : Judged
    to_disable = record { disabled = units; enabled = []; notices = map.empty }

    told_the_same : (named : Result Named Refusal) → (going_on (λ named. over (Ok (telling_too map.empty named))) named).conclusion t ≡ named
    told_the_same (Ok named) = ap (λ notices. Ok (record { names = named.names; notices = notices })) (none-joined named.notices)
    told_the_same (Err refusal) = refl

    disables_all : (preset_meaning preset).conclusion t ≡ (carried_out (units_disabled preset.scope units)).conclusion t
    disables_all =
        parts_come preset t to_disable (judged_as to_disable (all_to_disable (rules_of t) all units none_judged))
        ∙ before_nothing (judged_disabled preset.scope to_disable) (judged_enabled preset.scope to_disable) t (enabled_of_none preset.scope true)
        ∙ ap (λ named. (taken ((unless_refused (links_removed preset.scope) named).conclusion t)).conclusion t) (told_the_same ((units_named units).conclusion t))

pub preset_enables_all : PresetEnablesAll
preset_enables_all preset t units none count = enables_all preset t units count (no_presets_enable t none).2

pub preset_disables_all : PresetDisablesAll
preset_disables_all preset t units rules count =
    disables_all preset t units count (λ name. ap (λ rules. verdict rules name) rules ∙ (rest_is_disabled [] name).0 (All-nil (λ rule. applies name rule ≡ false)))
