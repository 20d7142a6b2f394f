use Rattle.slot_commands.proofs.Linked.{files_are_linked}
use Rattle.slot_commands.proofs.laws.files_are_linked_under_their_names.Goals as goal

pub returns : goal.returns
returns c = files_are_linked
