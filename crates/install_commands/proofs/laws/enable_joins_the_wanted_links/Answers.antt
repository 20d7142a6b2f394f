use Rattle.install_commands.proofs.Enabled.{enable_joins}
use Rattle.install_commands.proofs.laws.enable_joins_the_wanted_links.Goals as goal

pub returns : goal.returns
returns c = enable_joins
