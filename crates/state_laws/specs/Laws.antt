-- What is-enabled answers after a command; each law is the contract of a public function:
-- systemctl(1), "is-enabled", "enable", "disable" and "mask".
use Rattle.std.specs.Prelude.{◌≡◌, ◌≢◌, ◌⊎◌, ℕ, List, Contains, None}
use Rattle.std.specs.FinMap as map
use Rattle.unit_name.specs.declared.kind.Kind.TheVariants.{Instance}
use Rattle.unit_name.specs.Parts.{kind_of}
use Rattle.unit_name.specs.Name.{instance_of}
use Rattle.unit_paths.specs.declared.place.Place.{Place}
use Rattle.unit_paths.specs.declared.place.Place.TheVariants as places
use Rattle.unit_paths.specs.declared.place.Scope.{Scope}
use Rattle.unit_paths.specs.declared.place.Scope.TheVariants.{Etc, Run}
use Rattle.unit_paths.specs.Places.{scope_place}
use Rattle.unit_paths.specs.Slots.{unit_slot}
use Rattle.link_tree.specs.Trees.{Entries}
use Rattle.install_section.specs.Closure.{IsUnit, Reached}
use Rattle.install_section.specs.WantedLaws.{IsListed, HasInstanceListed, HasAlias}
use Rattle.footprint.specs.declared.answer.StateWord.{StateWord}
use Rattle.footprint.specs.declared.answer.StateWord.TheVariants.{Masked, MaskedRuntime, Enabled, EnabledRuntime}
use Rattle.slot_commands.specs.declared.mask.Mask.{Mask}
use Rattle.slot_commands.specs.Masks.{mask_meaning}
use Rattle.install_commands.specs.declared.disable.Disable.{Disable}
use Rattle.install_commands.specs.declared.enable.Enable.{Enable}
use Rattle.install_commands.specs.Disable.{disable_meaning}
use Rattle.install_commands.specs.Enable.{enable_meaning}
use Rattle.install_commands.specs.Laws.{Leaves, IsNamed}
use Rattle.states.specs.IsEnabled.{state_word}
use Rattle.states.specs.Laws.{IsLinkedIn}

-- Which word is answered for a name.
abbrev pub IsTold : Entries → (name : List ℕ) → StateWord → Type 0
IsTold t name word = (state_word name).conclusion t ≡ word

-- A unit asks for a link at the path, and is enabled by it: in the directory of a unit that wants
-- or requires it, under its own name; or, if it is no instance and nothing is there, under the name
-- of its default instance, or as an alias.
abbrev pub AsksToBeEnabled : Entries → Place → (unit path : List ℕ) → Type 0
AsksToBeEnabled t place unit path = (file : List ℕ)
    × (IsListed t place unit path file
    ⊎ ((HasInstanceListed t place unit path file ⊎ HasAlias t place unit path file) × (map.get t path ≡ None) × (kind_of (instance_of unit) ≢ Instance)))

-- It is reported as enabled in the scope: for /run, if no link of /etc comes first.
abbrev pub IsToldEnabled : Scope → Entries → (unit : List ℕ) → Type 0
IsToldEnabled Etc t unit = IsTold t unit Enabled
IsToldEnabled Run t unit = ¬ IsLinkedIn Etc t unit → IsTold t unit EnabledRuntime

-- After an accepted enable a unit that was enabled, and asked for such a link, is reported as
-- enabled, if it is found under its own name.
abbrev pub EnabledAfterEnable : Type 0
EnabledAfterEnable = (enable : Enable) (t u : Entries) → Leaves (enable_meaning enable) t u
    → (unit path : List ℕ) → Reached t enable.units unit → AsksToBeEnabled t (scope_place enable.scope) unit path → IsUnit u unit
    → IsToldEnabled enable.scope u unit

-- It is reported as masked in the scope: for /run, if there is nothing at its path in /etc.
abbrev pub IsToldMasked : Scope → Entries → (unit : List ℕ) → Type 0
IsToldMasked Etc t unit = IsTold t unit Masked
IsToldMasked Run t unit = map.get t (unit_slot places.Etc unit) ≡ None → IsTold t unit MaskedRuntime

-- After an accepted mask each of its units is reported as masked.
abbrev pub MaskedAfterMask : Type 0
MaskedAfterMask = (mask : Mask) (t u : Entries) → Leaves (mask_meaning mask) t u → (unit : List ℕ) → Contains mask.units unit → IsToldMasked mask.scope u unit

-- the word for a unit that is enabled by links of a scope
abbrev pub enabled_word : Scope → StateWord
enabled_word Etc = Enabled
enabled_word Run = EnabledRuntime

-- After an accepted disable none of its names is reported as enabled in the scope.
abbrev pub DisabledIsNotEnabled : Type 0
DisabledIsNotEnabled = (disable : Disable) (t u : Entries) → Leaves (disable_meaning disable) t u
    → (name : List ℕ) → IsNamed t disable.units name → ¬ IsTold u name (enabled_word disable.scope)
