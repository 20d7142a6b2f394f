use Rattle.kept_history.proofs.Lasting.{promised}
use Rattle.kept_history.proofs.laws.runs_are_promised.Goals as goal

pub returns : goal.returns
returns c = promised
