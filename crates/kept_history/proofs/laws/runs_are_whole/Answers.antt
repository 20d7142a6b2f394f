use Rattle.kept_history.proofs.Lasting.{runs_are_whole}
use Rattle.kept_history.proofs.laws.runs_are_whole.Goals as goal

pub returns : goal.returns
returns c = runs_are_whole
