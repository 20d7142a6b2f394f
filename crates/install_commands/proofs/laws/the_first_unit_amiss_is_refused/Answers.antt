use Rattle.install_commands.proofs.Checked.{check_passes, check_refuses_first}
use Rattle.install_commands.proofs.laws.the_first_unit_amiss_is_refused.Goals as goal

pub returns : goal.returns
returns c = record { passes = check_passes; refused = check_refuses_first }
