use Rattle.install_commands.proofs.Disabled.{disable_again}
use Rattle.install_commands.proofs.laws.disable_again_changes_nothing.Goals as goal

pub returns : goal.returns
returns c = disable_again
