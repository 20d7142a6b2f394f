use Rattle.preset_rules.proofs.Rests.{no_presets_enable}
use Rattle.preset_rules.proofs.laws.without_presets_units_are_enabled.Goals as goal

pub returns : goal.returns
returns c = no_presets_enable
