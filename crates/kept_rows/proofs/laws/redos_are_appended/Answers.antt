use Rattle.kept_rows.proofs.Redone.{redos_are_appended}
use Rattle.kept_rows.proofs.laws.redos_are_appended.Goals as goal

pub returns : goal.returns
returns c = redos_are_appended
