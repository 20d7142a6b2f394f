-- The calls that commands make.
use Rattle.std.specs.Prelude.{ℕ, List, [], ◌∷◌, ◌++◌}
use Rattle.unit_paths.specs.declared.place.Scope.{Scope}
use Rattle.history.specs.declared.row.Request.TheVariants.{Do}
use Rattle.root_words.specs.declared.asked.PresetMode.{PresetMode}
use Rattle.root_words.specs.declared.asked.PresetMode.TheVariants as given
use Rattle.unit_lists.specs.declared.chosen.Chosen.{Chosen}
use Rattle.unit_lists.specs.declared.mode.Mode.{Mode}
use Rattle.unit_lists.specs.declared.mode.Mode.TheVariants as modes
use Rattle.unit_script.specs.declared.action.Action.{Action}
use Rattle.unit_script.specs.declared.action.Action.TheVariants.{Disable, Preset}
use Rattle.unit_script.specs.declared.call.Call.{Call}

abbrev pub mode_of : PresetMode → Mode
mode_of given.Full = modes.Full
mode_of given.EnableOnly = modes.EnableOnly
mode_of given.DisableOnly = modes.DisableOnly

-- a call of an operator for these units, unless there are none
abbrev pub call_for : (operator : List ℕ) → (units : List (List ℕ)) → Action → List Call
call_for operator [] action = []
call_for operator (unit ∷ units) action = record { operator = operator; request = Do action } ∷ []

abbrev pub disable_for : (operator : List ℕ) → Scope → (units : List (List ℕ)) → List Call
disable_for operator scope units = call_for operator units (Disable (record { scope = scope; units = units }))

abbrev pub preset_for : (operator : List ℕ) → Scope → (units : List (List ℕ)) → List Call
preset_for operator scope units = call_for operator units (Preset (record { scope = scope; units = units }))

-- preset-all: the units without install words that have links are disabled, and all others are
-- preset.
abbrev pub preset_all_calls : (operator : List ℕ) → Scope → Chosen → List Call
preset_all_calls operator scope chosen = disable_for operator scope chosen.bare ++ preset_for operator scope chosen.names
