use Rattle.kept_laws.proofs.Unsynced.{unsynced_roots_mend}
use Rattle.kept_laws.proofs.laws.unsynced_roots_mend.Goals as goal

pub returns : goal.returns
returns c = unsynced_roots_mend
