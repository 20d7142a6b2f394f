use Rattle.install_commands.proofs.Presetting.{preset_in_turn}
use Rattle.install_commands.proofs.laws.preset_is_disable_and_then_enable.Goals as goal

pub returns : goal.returns
returns c = preset_in_turn
