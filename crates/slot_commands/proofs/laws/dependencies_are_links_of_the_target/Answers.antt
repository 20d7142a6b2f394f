use Rattle.slot_commands.proofs.Linked.{dependencies_are_added}
use Rattle.slot_commands.proofs.laws.dependencies_are_links_of_the_target.Goals as goal

pub returns : goal.returns
returns c = dependencies_are_added
