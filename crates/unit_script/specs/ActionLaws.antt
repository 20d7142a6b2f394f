-- For the proofs only: each command of a script satisfies the laws of operations because the
-- operation it consists of does.
use Rattle.std.proofs.Common.{false, refl, sym}
use Rattle.std.proofs.lemmas.Bool.{true≢false}
use Rattle.footprint.specs.Operations.{OperationLaws}
use Rattle.footprint.proofs.Asking.{laws_of_questions}
use Rattle.footprint.proofs.Carried.{laws_of, laws_of_steps}
use Rattle.footprint.proofs.InTurns.{laws_of_both, laws_after}
use Rattle.install_commands.specs.Enable.{enable_command}
use Rattle.install_commands.specs.Disable.{disable_command}
use Rattle.install_commands.specs.Reenable.{reenable_disables, reenable_enables}
use Rattle.install_commands.specs.Preset.{judged_disabled, judged_enabled, carried_through, preset_judges, preset_meaning}
use Rattle.slot_commands.specs.Masks.{mask_steps, unmask_steps}
use Rattle.slot_commands.specs.LinkUnits.{link_steps}
use Rattle.slot_commands.specs.AddTo.{add_steps}
use Rattle.slot_commands.specs.SetDefault.{default_steps}
use Rattle.slot_commands.specs.ByHand.{place_steps, remove_steps}
use Rattle.states.specs.Dependencies.{dependencies_answer}
use Rattle.states.specs.GetDefault.{get_default_answer}
use Rattle.states.specs.IsEnabled.{is_enabled_answer}
use Rattle.unit_script.specs.declared.action.Action.TheVariants.{Enable, Disable, Reenable, Preset, Mask, Unmask, LinkUnits, AddTo, SetDefault, PlaceEntry, RemoveEntry, IsEnabled, GetDefault, Dependencies}
use Rattle.unit_script.specs.Actions.{asks, meaning}

preset_laws : OperationLaws (λ c. false) preset_meaning
preset_laws =
    laws_after preset_judges (λ preset. carried_through preset.scope)
    (laws_of_both (λ c. judged_disabled c.0.scope c.1) (λ c. judged_enabled c.0.scope c.1)) (λ preset refusal. refl)

pub action_laws : OperationLaws asks meaning
action_laws = record {
  confinement = elim [
    | Enable enable ↦ (laws_of enable_command).confinement enable
    | Disable disable ↦ (laws_of disable_command).confinement disable
    | Reenable reenable ↦ (laws_of_both reenable_disables reenable_enables).confinement reenable
    | Preset preset ↦ preset_laws.confinement preset
    | Mask mask ↦ (laws_of_steps mask_steps).confinement mask
    | Unmask unmask ↦ (laws_of_steps unmask_steps).confinement unmask
    | LinkUnits link ↦ (laws_of_steps link_steps).confinement link
    | AddTo add ↦ (laws_of_steps add_steps).confinement add
    | SetDefault set ↦ (laws_of_steps default_steps).confinement set
    | PlaceEntry place ↦ (laws_of_steps place_steps).confinement place
    | RemoveEntry remove ↦ (laws_of_steps remove_steps).confinement remove
    | IsEnabled question ↦ (laws_of_questions is_enabled_answer).confinement question
    | GetDefault question ↦ (laws_of_questions get_default_answer).confinement question
    | Dependencies question ↦ (laws_of_questions dependencies_answer).confinement question
  ];
  changes = elim [
    | Enable enable ↦ (laws_of enable_command).changes enable
    | Disable disable ↦ (laws_of disable_command).changes disable
    | Reenable reenable ↦ (laws_of_both reenable_disables reenable_enables).changes reenable
    | Preset preset ↦ preset_laws.changes preset
    | Mask mask ↦ (laws_of_steps mask_steps).changes mask
    | Unmask unmask ↦ (laws_of_steps unmask_steps).changes unmask
    | LinkUnits link ↦ (laws_of_steps link_steps).changes link
    | AddTo add ↦ (laws_of_steps add_steps).changes add
    | SetDefault set ↦ (laws_of_steps default_steps).changes set
    | PlaceEntry place ↦ (laws_of_steps place_steps).changes place
    | RemoveEntry remove ↦ (laws_of_steps remove_steps).changes remove
    | IsEnabled question ↦ (laws_of_questions is_enabled_answer).changes question
    | GetDefault question ↦ (laws_of_questions get_default_answer).changes question
    | Dependencies question ↦ (laws_of_questions dependencies_answer).changes question
  ];
  refusal = elim [
    | Enable enable ↦ (laws_of enable_command).refusal enable
    | Disable disable ↦ (laws_of disable_command).refusal disable
    | Reenable reenable ↦ (laws_of_both reenable_disables reenable_enables).refusal reenable
    | Preset preset ↦ preset_laws.refusal preset
    | Mask mask ↦ (laws_of_steps mask_steps).refusal mask
    | Unmask unmask ↦ (laws_of_steps unmask_steps).refusal unmask
    | LinkUnits link ↦ (laws_of_steps link_steps).refusal link
    | AddTo add ↦ (laws_of_steps add_steps).refusal add
    | SetDefault set ↦ (laws_of_steps default_steps).refusal set
    | PlaceEntry place ↦ (laws_of_steps place_steps).refusal place
    | RemoveEntry remove ↦ (laws_of_steps remove_steps).refusal remove
    | IsEnabled question ↦ (laws_of_questions is_enabled_answer).refusal question
    | GetDefault question ↦ (laws_of_questions get_default_answer).refusal question
    | Dependencies question ↦ (laws_of_questions dependencies_answer).refusal question
  ];
  question = elim [
    | Enable enable ↦ λ t asked. absurd (true≢false (sym asked))
    | Disable disable ↦ λ t asked. absurd (true≢false (sym asked))
    | Reenable reenable ↦ λ t asked. absurd (true≢false (sym asked))
    | Preset preset ↦ λ t asked. absurd (true≢false (sym asked))
    | Mask mask ↦ λ t asked. absurd (true≢false (sym asked))
    | Unmask unmask ↦ λ t asked. absurd (true≢false (sym asked))
    | LinkUnits link ↦ λ t asked. absurd (true≢false (sym asked))
    | AddTo add ↦ λ t asked. absurd (true≢false (sym asked))
    | SetDefault set ↦ λ t asked. absurd (true≢false (sym asked))
    | PlaceEntry place ↦ λ t asked. absurd (true≢false (sym asked))
    | RemoveEntry remove ↦ λ t asked. absurd (true≢false (sym asked))
    | IsEnabled question ↦ (laws_of_questions is_enabled_answer).question question
    | GetDefault question ↦ (laws_of_questions get_default_answer).question question
    | Dependencies question ↦ (laws_of_questions dependencies_answer).question question
  ];
}
