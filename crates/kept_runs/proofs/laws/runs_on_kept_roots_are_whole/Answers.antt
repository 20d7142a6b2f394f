use Rattle.kept_runs.proofs.Whole.{runs_are_whole}
use Rattle.kept_runs.proofs.laws.runs_on_kept_roots_are_whole.Goals as goal

pub returns : goal.returns
returns c = runs_are_whole
