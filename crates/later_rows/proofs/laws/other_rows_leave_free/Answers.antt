use Rattle.later_rows.proofs.Blocked.{other_rows_leave_free}
use Rattle.later_rows.proofs.laws.other_rows_leave_free.Goals as goal

pub returns : goal.returns
returns g c = other_rows_leave_free g.O.Operation.asks
