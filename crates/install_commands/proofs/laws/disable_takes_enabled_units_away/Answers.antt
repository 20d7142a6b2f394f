use Rattle.install_commands.proofs.Disabled.{disable_after_enable}
use Rattle.install_commands.proofs.laws.disable_takes_enabled_units_away.Goals as goal

pub returns : goal.returns
returns c = disable_after_enable
