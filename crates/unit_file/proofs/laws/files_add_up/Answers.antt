use Rattle.unit_file.proofs.Additions.{values_add_up, lists_add_up}
use Rattle.unit_file.proofs.laws.files_add_up.Goals as goal

pub returns-clause-values : goal.returns-clause-values
returns-clause-values c = values_add_up

pub returns-clause-lists : goal.returns-clause-lists
returns-clause-lists c = lists_add_up
