use Rattle.refusal_laws.proofs.Enabling.{enable_refused}
use Rattle.refusal_laws.proofs.laws.enable_is_refused_for_these_reasons.Goals as goal

pub returns : goal.returns
returns c = enable_refused
