use Rattle.install_commands.proofs.Enabled.{enable_again}
use Rattle.install_commands.proofs.laws.enable_again_changes_nothing.Goals as goal

pub returns : goal.returns
returns c = enable_again
