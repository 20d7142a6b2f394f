-- What each command of a script means: what it looks up in a tree, and its effect.
use Rattle.std.specs.Prelude.{Bool, true, false}
use Rattle.footprint.specs.Inquiry.{Inquiry}
use Rattle.footprint.specs.Operations.{Effect}
use Rattle.install_commands.specs.Enable.{enable_meaning}
use Rattle.install_commands.specs.Disable.{disable_meaning}
use Rattle.install_commands.specs.Reenable.{reenable_meaning}
use Rattle.install_commands.specs.Preset.{preset_meaning}
use Rattle.slot_commands.specs.Masks.{mask_meaning, unmask_meaning}
use Rattle.slot_commands.specs.LinkUnits.{link_meaning}
use Rattle.slot_commands.specs.AddTo.{add_meaning}
use Rattle.slot_commands.specs.SetDefault.{default_meaning}
use Rattle.slot_commands.specs.ByHand.{place_meaning, remove_meaning}
use Rattle.states.specs.IsEnabled.{is_enabled_meaning}
use Rattle.states.specs.GetDefault.{get_default_meaning}
use Rattle.states.specs.Dependencies.{dependencies_meaning}
use Rattle.unit_script.specs.declared.action.Action.{Action}
use Rattle.unit_script.specs.declared.action.Action.TheVariants.{Enable, Disable, Reenable, Preset, Mask, Unmask, LinkUnits, AddTo, SetDefault, PlaceEntry, RemoveEntry, IsEnabled, GetDefault, Dependencies}

abbrev pub meaning : Action → Inquiry Effect
meaning (Enable enable) = enable_meaning enable
meaning (Disable disable) = disable_meaning disable
meaning (Reenable reenable) = reenable_meaning reenable
meaning (Preset preset) = preset_meaning preset
meaning (Mask mask) = mask_meaning mask
meaning (Unmask unmask) = unmask_meaning unmask
meaning (LinkUnits link) = link_meaning link
meaning (AddTo add) = add_meaning add
meaning (SetDefault set) = default_meaning set
meaning (PlaceEntry place) = place_meaning place
meaning (RemoveEntry remove) = remove_meaning remove
meaning (IsEnabled question) = is_enabled_meaning question
meaning (GetDefault question) = get_default_meaning question
meaning (Dependencies question) = dependencies_meaning question

-- whether it is a question
abbrev pub asks : Action → Bool
asks (IsEnabled question) = true
asks (GetDefault question) = true
asks (Dependencies question) = true
asks (Enable enable) = false
asks (Disable disable) = false
asks (Reenable reenable) = false
asks (Preset preset) = false
asks (Mask mask) = false
asks (Unmask unmask) = false
asks (LinkUnits link) = false
asks (AddTo add) = false
asks (SetDefault set) = false
asks (PlaceEntry place) = false
asks (RemoveEntry remove) = false
