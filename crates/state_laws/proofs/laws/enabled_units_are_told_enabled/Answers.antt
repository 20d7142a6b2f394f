use Rattle.state_laws.proofs.Linked.{enabled_after_enable}
use Rattle.state_laws.proofs.laws.enabled_units_are_told_enabled.Goals as goal

pub returns : goal.returns
returns c = enabled_after_enable
