use Rattle.unit_lists.proofs.ListedNames.{names_with_entries}
use Rattle.unit_lists.proofs.laws.names_with_entries_are_listed.Goals as goal

pub returns : goal.returns
returns c = names_with_entries
