-- Which operations look at all slots of a kind, each the contract of a public function.
use Rattle.link_tree.specs.Trees.{Entries}
use Rattle.tree_access.specs.declared.key.Key.{Key}
use Rattle.tree_access.specs.declared.key.Key.TheVariants.{Links}
use Rattle.footprint.specs.Inquiry.{Inquiry}
use Rattle.footprint.specs.Operations.{Effect}
use Rattle.slot_commands.specs.AddTo.{add_meaning}
use Rattle.slot_commands.specs.ByHand.{place_meaning, remove_meaning}
use Rattle.slot_commands.specs.LinkUnits.{link_meaning}
use Rattle.slot_commands.specs.Masks.{mask_meaning, unmask_meaning}
use Rattle.slot_commands.specs.SetDefault.{default_meaning}
use Rattle.install_commands.specs.Check.{check_meaning}
use Rattle.install_commands.specs.Disable.{disable_meaning}
use Rattle.install_commands.specs.Enable.{enable_meaning}
use Rattle.install_commands.specs.Preset.{preset_meaning}
use Rattle.install_commands.specs.Reenable.{reenable_meaning}
use Rattle.states.specs.GetDefault.{get_default_meaning}
use Rattle.states.specs.IsEnabled.{is_enabled_meaning}
use Rattle.footprint_laws.specs.Sets.{LooksAt}

-- An operation never looks at this key, in any tree.
abbrev pub NeverLooksAt : {O : Type 0} → (O → Inquiry Effect) → Key → Type 0
NeverLooksAt {O} meaning key = (c : O) (t : Entries) → LooksAt meaning c t key → ⊥

-- No operation but list-dependencies looks at all slots of dependencies.
pub record OthersNeverLookAtAllLinks : Type 0 where
  pub enable : NeverLooksAt enable_meaning Links
  pub disable : NeverLooksAt disable_meaning Links
  pub reenable : NeverLooksAt reenable_meaning Links
  pub preset : NeverLooksAt preset_meaning Links
  pub mask : NeverLooksAt mask_meaning Links
  pub unmask : NeverLooksAt unmask_meaning Links
  pub link : NeverLooksAt link_meaning Links
  pub add : NeverLooksAt add_meaning Links
  pub set_default : NeverLooksAt default_meaning Links
  pub check : NeverLooksAt check_meaning Links
  pub place : NeverLooksAt place_meaning Links
  pub remove : NeverLooksAt remove_meaning Links
  pub get_default : NeverLooksAt get_default_meaning Links
  pub is_enabled : NeverLooksAt is_enabled_meaning Links
