use Rattle.later_rows.proofs.Rebased.{rows_hold_on_another_tree}
use Rattle.later_rows.proofs.laws.rows_hold_on_another_tree.Goals as goal

pub returns : goal.returns
returns g c = rows_hold_on_another_tree g.met.O.Operation.laws
