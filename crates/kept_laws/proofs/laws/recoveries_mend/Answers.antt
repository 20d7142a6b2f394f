use Rattle.kept_laws.proofs.Found.{recoveries_mend}
use Rattle.kept_laws.proofs.laws.recoveries_mend.Goals as goal

pub returns : goal.returns
returns c = recoveries_mend
