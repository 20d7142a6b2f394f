use Rattle.refusal_laws.proofs.Defaulting.{set_default_refused}
use Rattle.refusal_laws.proofs.laws.set_default_is_refused_for_these_reasons.Goals as goal

pub returns : goal.returns
returns c = set_default_refused
