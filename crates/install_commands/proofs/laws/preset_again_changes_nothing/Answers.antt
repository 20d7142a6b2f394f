use Rattle.install_commands.proofs.PresetTwice.{preset_again}
use Rattle.install_commands.proofs.laws.preset_again_changes_nothing.Goals as goal

pub returns : goal.returns
returns c = preset_again
