use Rattle.kept_history.proofs.Lasting.{writes_are_whole}
use Rattle.kept_history.proofs.laws.writes_are_whole.Goals as goal

pub returns : goal.returns
returns c = writes_are_whole
