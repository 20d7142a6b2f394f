use Rattle.kept_history.proofs.Lasting.{always_at_rest}
use Rattle.kept_history.proofs.laws.roots_are_always_at_rest.Goals as goal

pub returns : goal.returns
returns c = always_at_rest
