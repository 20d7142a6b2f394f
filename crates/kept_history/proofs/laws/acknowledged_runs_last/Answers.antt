use Rattle.kept_history.proofs.Lasting.{acknowledged}
use Rattle.kept_history.proofs.laws.acknowledged_runs_last.Goals as goal

pub returns : goal.returns
returns c = acknowledged
