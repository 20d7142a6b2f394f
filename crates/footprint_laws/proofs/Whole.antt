-- Each set of keys but that of list-dependencies is without the key of all links.
use Rattle.std.proofs.Common.{◌≡◌, ℕ, Bool, true, false, List, refl}
use Rattle.unit_paths.specs.declared.place.Scope.{Scope}
use Rattle.link_tree.specs.Trees.{Entries}
use Rattle.tree_access.specs.declared.key.Key.{Key}
use Rattle.tree_access.specs.declared.key.Key.TheVariants.{Cell, Marked, Presets, Links}
use Rattle.slot_commands.specs.declared.add_to.AddTo.{AddTo}
use Rattle.slot_commands.specs.declared.by_hand.PlaceEntry.{PlaceEntry}
use Rattle.slot_commands.specs.declared.by_hand.RemoveEntry.{RemoveEntry}
use Rattle.slot_commands.specs.declared.link_units.LinkUnits.{LinkUnits}
use Rattle.slot_commands.specs.declared.mask.Mask.{Mask}
use Rattle.slot_commands.specs.declared.mask.Unmask.{Unmask}
use Rattle.slot_commands.specs.declared.set_default.SetDefault.{SetDefault}
use Rattle.install_commands.specs.declared.disable.Disable.{Disable}
use Rattle.install_commands.specs.declared.preset.Preset.{Preset}
use Rattle.install_commands.specs.declared.reenable.Reenable.{Reenable}
use Rattle.footprint_laws.specs.Installs.{CheckKeys, EnableKeys, DisableKeys, ReenableKeys, PresetKeys}
use Rattle.footprint_laws.specs.Questions.{GetDefaultKeys, IsEnabledKeys}
use Rattle.footprint_laws.specs.Slots.{MaskKeys, UnmaskKeys, PlaceKeys, RemoveKeys, SetDefaultKeys, LinkKeys, AddKeys}
use Rattle.footprint_laws.specs.Whole.{OthersNeverLookAtAllLinks}
use Rattle.footprint_laws.proofs.Adding.{add_looks}
use Rattle.footprint_laws.proofs.Checks.{check_looks}
use Rattle.footprint_laws.proofs.Disables.{disable_looks}
use Rattle.footprint_laws.proofs.Enables.{enable_looks}
use Rattle.footprint_laws.proofs.Hands.{place_looks, remove_looks}
use Rattle.footprint_laws.proofs.Masks.{mask_looks}
use Rattle.footprint_laws.proofs.Presets.{preset_looks}
use Rattle.footprint_laws.proofs.Questions.{get_default_looks, is_enabled_looks}
use Rattle.footprint_laws.proofs.Reenables.{reenable_looks}
use Rattle.footprint_laws.proofs.Slots.{link_looks, set_default_looks}
use Rattle.footprint_laws.proofs.Unmasks.{unmask_looks}

-- a key of anything but all slots of dependencies
IsPart : Key → Type 0
IsPart (Cell path) = Unit {0}
IsPart (Marked scope name) = Unit {0}
IsPart Presets = Unit {0}
IsPart Links = ⊥

check_part : (units : List (List ℕ)) (t : Entries) (key : Key) → CheckKeys units t key → IsPart key
unfolding IsPart
check_part units t key (CheckKeys.Checked unit path up_to at) = tt

enable_part : (scope : Scope) (skip : Bool) (units : List (List ℕ)) (t : Entries) (key : Key) → EnableKeys scope skip units t key → IsPart key
unfolding IsPart
enable_part scope skip units t key (EnableKeys.Checked unit path up_to at) = tt
enable_part scope skip units t key (EnableKeys.Also path all at) = tt
enable_part scope skip units t key (EnableKeys.Link path file settled is wanted) = tt

disable_part : (disable : Disable) (t : Entries) (key : Key) → DisableKeys disable t key → IsPart key
unfolding IsPart
disable_part disable t key (DisableKeys.Name path at) = tt
disable_part disable t key (DisableKeys.Links name done named) = tt
disable_part disable t key (DisableKeys.Link path entry done there removed) = tt

reenable_part : (reenable : Reenable) (t : Entries) (key : Key) → ReenableKeys reenable t key → IsPart key
unfolding IsPart
reenable_part reenable t key (ReenableKeys.Checked unit path up_to at) = tt
reenable_part reenable t key (ReenableKeys.Name path all at) = tt
reenable_part reenable t key (ReenableKeys.Links v name leaves named) = tt
reenable_part reenable t key (ReenableKeys.Link v path entry leaves there cleared) = tt
reenable_part reenable t key (ReenableKeys.Then v same leaves looks) = enable_part _ _ _ v key looks

preset_part : (preset : Preset) (t : Entries) (key : Key) → PresetKeys preset t key → IsPart key
unfolding IsPart
preset_part preset t key (PresetKeys.Counted unit path up_to at) = tt
preset_part preset t key (PresetKeys.AllPresets all) = tt
preset_part preset t key (PresetKeys.Policy path all at) = tt
preset_part preset t key (PresetKeys.Name disabled enabled notices path judges at) = tt
preset_part preset t key (PresetKeys.Links disabled enabled v name disables named) = tt
preset_part preset t key (PresetKeys.Link disabled enabled v path entry disables there gone) = tt
preset_part preset t key (PresetKeys.Then disabled enabled v same disables looks) = enable_part _ _ _ v key looks

mask_part : (mask : Mask) (t : Entries) (key : Key) → MaskKeys mask t key → IsPart key
unfolding IsPart
mask_part mask t key (MaskKeys.Slot unit up_to) = tt

unmask_part : (unmask : Unmask) (key : Key) → UnmaskKeys unmask key → IsPart key
unfolding IsPart
unmask_part unmask key (UnmaskKeys.Slot unit among) = tt

place_part : (place : PlaceEntry) (key : Key) → PlaceKeys place key → IsPart key
unfolding IsPart
place_part place key (PlaceKeys.Slot slot) = tt

remove_part : (remove : RemoveEntry) (key : Key) → RemoveKeys remove key → IsPart key
unfolding IsPart
remove_part remove key (RemoveKeys.Slot slot) = tt

set_default_part : (set_default : SetDefault) (t : Entries) (key : Key) → SetDefaultKeys set_default t key → IsPart key
unfolding IsPart
set_default_part set_default t key (SetDefaultKeys.Unit path at) = tt
set_default_part set_default t key (SetDefaultKeys.Link real file found type plain) = tt

link_part : (link : LinkUnits) (t : Entries) (key : Key) → LinkKeys link t key → IsPart key
unfolding IsPart
link_part link t key (LinkKeys.Way u path cell turn at) = tt
link_part link t key (LinkKeys.Slot u path file turn leads named outside) = tt

add_part : (add : AddTo) (t : Entries) (key : Key) → AddKeys add t key → IsPart key
unfolding IsPart
add_part add t key (AddKeys.Target path at) = tt
add_part add t key (AddKeys.Unit by file u unit path found turn at) = tt
add_part add t key (AddKeys.Link by file u unit name its found turn listed) = tt

get_default_part : (t : Entries) (key : Key) → GetDefaultKeys t key → IsPart key
unfolding IsPart
get_default_part t key (GetDefaultKeys.Target path at) = tt

is_enabled_part : (t : Entries) (unit : List ℕ) (key : Key) → IsEnabledKeys t unit key → IsPart key
unfolding IsPart
is_enabled_part t unit key (IsEnabledKeys.Itself path at) = tt
is_enabled_part t unit key (IsEnabledKeys.ItsLinks scope found) = tt

pub others_never_look_at_all_links : OthersNeverLookAtAllLinks
unfolding IsPart
others_never_look_at_all_links = record {
  enable = λ c t here. enable_part _ _ _ t Links ((enable_looks c t Links).only here);
  disable = λ c t here. disable_part c t Links ((disable_looks c t Links).only here);
  reenable = λ c t here. reenable_part c t Links ((reenable_looks c t Links).only here);
  preset = λ c t here. preset_part c t Links ((preset_looks c t Links).only here);
  mask = λ c t here. mask_part c t Links ((mask_looks c t Links).0 here);
  unmask = λ c t here. unmask_part c Links ((unmask_looks c t Links).0 here);
  link = λ c t here. link_part c t Links ((link_looks c t Links).0 here);
  add = λ c t here. add_part c t Links ((add_looks c t Links).0 here);
  set_default = λ c t here. set_default_part c t Links ((set_default_looks c t Links).0 here);
  check = λ c t here. check_part c.units t Links ((check_looks c t Links).0 here);
  place = λ c t here. place_part c Links ((place_looks c t Links).0 here);
  remove = λ c t here. remove_part c Links ((remove_looks c t Links).0 here);
  get_default = λ c t here. get_default_part t Links ((get_default_looks c t Links).0 here);
  is_enabled = λ c t here. is_enabled_part t c.unit Links ((is_enabled_looks c t Links).0 here);
}
