use Rattle.slot_commands.proofs.Linked.{default_is_set}
use Rattle.slot_commands.proofs.laws.the_default_leads_to_the_units_file.Goals as goal

pub returns : goal.returns
returns c = default_is_set
