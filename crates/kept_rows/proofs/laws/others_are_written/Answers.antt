use Rattle.kept_rows.proofs.Written.{others_are_written}
use Rattle.kept_rows.proofs.laws.others_are_written.Goals as goal

pub returns : goal.returns
returns c = others_are_written
