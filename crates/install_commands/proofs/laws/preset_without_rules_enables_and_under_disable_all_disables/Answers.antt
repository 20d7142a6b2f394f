use Rattle.install_commands.proofs.Presetting.{preset_enables_all, preset_disables_all}
use Rattle.install_commands.proofs.laws.preset_without_rules_enables_and_under_disable_all_disables.Goals as goal

pub returns-clause-enables : goal.returns-clause-enables
returns-clause-enables c = preset_enables_all

pub returns-clause-disables : goal.returns-clause-disables
returns-clause-disables c = preset_disables_all
