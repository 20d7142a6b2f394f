use Rattle.std.proofs.Common.{map as list_map}
use Rattle.unit_script.specs.Machine.{asked}
use Rattle.unit_script.specs.ActionLaws.{action_laws}
use Rattle.later_rows.proofs.Rebased.{rows_hold_on_another_tree}
use Rattle.kept_rows.proofs.laws.first_tree_may_change.Goals as goal

pub returns : goal.returns
returns c = λ first calls changes from apart. rows_hold_on_another_tree action_laws first (list_map asked calls) changes from apart
