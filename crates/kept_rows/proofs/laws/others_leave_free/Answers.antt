use Rattle.kept_rows.proofs.Refusals.{others_leave_free}
use Rattle.kept_rows.proofs.laws.others_leave_free.Goals as goal

pub returns : goal.returns
returns c = others_leave_free
