use Rattle.preset_rules.proofs.Rests.{line_disables_all, rest_is_disabled}
use Rattle.preset_rules.proofs.laws.the_rest_is_disabled.Goals as goal

pub returns-clause-line : goal.returns-clause-line
returns-clause-line c = line_disables_all

pub returns-clause-rest : goal.returns-clause-rest
returns-clause-rest c = rest_is_disabled
