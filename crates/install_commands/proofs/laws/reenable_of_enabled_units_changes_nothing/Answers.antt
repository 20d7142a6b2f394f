use Rattle.install_commands.proofs.Reenabled.{reenable_of_enabled}
use Rattle.install_commands.proofs.laws.reenable_of_enabled_units_changes_nothing.Goals as goal

pub returns : goal.returns
returns c = reenable_of_enabled
