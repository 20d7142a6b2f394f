use Rattle.kept_history.proofs.Lasting.{withdrawn_lasts}
use Rattle.kept_history.proofs.laws.withdrawn_runs_last.Goals as goal

pub returns : goal.returns
returns c = withdrawn_lasts
