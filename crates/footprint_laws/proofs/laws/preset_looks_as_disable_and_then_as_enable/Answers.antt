use Rattle.footprint_laws.proofs.Presets.{preset_looks}
use Rattle.footprint_laws.proofs.laws.preset_looks_as_disable_and_then_as_enable.Goals as goal

pub returns : goal.returns
returns c = preset_looks
