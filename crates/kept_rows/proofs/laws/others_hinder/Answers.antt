use Rattle.kept_rows.proofs.Refusals.{others_hinder}
use Rattle.kept_rows.proofs.laws.others_hinder.Goals as goal

pub returns : goal.returns
returns c = others_hinder
