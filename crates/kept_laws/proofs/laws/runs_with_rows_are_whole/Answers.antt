use Rattle.kept_laws.proofs.Rows.{runs_with_rows_are_whole}
use Rattle.kept_laws.proofs.laws.runs_with_rows_are_whole.Goals as goal

pub returns : goal.returns
returns c = runs_with_rows_are_whole
