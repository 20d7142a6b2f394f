use Rattle.link_tree.proofs.Grammar.{inventories_are_entries}
use Rattle.link_tree.proofs.laws.inventories_are_their_entries.Goals as goal

pub returns : goal.returns
returns c = inventories_are_entries
