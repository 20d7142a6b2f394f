use Rattle.state_laws.proofs.Disabled.{disabled_is_not_enabled}
use Rattle.state_laws.proofs.laws.names_disabled_are_not_told_enabled.Goals as goal

pub returns : goal.returns
returns c = disabled_is_not_enabled
