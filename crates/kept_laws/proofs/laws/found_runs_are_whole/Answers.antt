use Rattle.kept_laws.proofs.Parts.{found_runs_are_whole}
use Rattle.kept_laws.proofs.laws.found_runs_are_whole.Goals as goal

pub returns : goal.returns
returns c = found_runs_are_whole
