use Rattle.install_commands.proofs.Reenabled.{reenable_clears}
use Rattle.install_commands.proofs.laws.reenable_keeps_the_ways_to_linked_units.Goals as goal

pub returns : goal.returns
returns c = reenable_clears
