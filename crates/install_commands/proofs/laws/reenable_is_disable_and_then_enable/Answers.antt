use Rattle.install_commands.specs.Reenable.{reenable_disables, reenable_enables}
use Rattle.install_commands.proofs.Composites.{leaves_in_turn, refused_in_turn}
use Rattle.install_commands.proofs.laws.reenable_is_disable_and_then_enable.Goals as goal

pub returns : goal.returns
returns c = λ reenable t. (leaves_in_turn (reenable_disables reenable) (reenable_enables reenable) t, refused_in_turn (reenable_disables reenable) (reenable_enables reenable) t)
