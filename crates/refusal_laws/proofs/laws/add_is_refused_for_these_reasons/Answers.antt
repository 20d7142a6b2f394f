use Rattle.refusal_laws.proofs.Adding.{add_refused}
use Rattle.refusal_laws.proofs.laws.add_is_refused_for_these_reasons.Goals as goal

pub returns : goal.returns
returns c = add_refused
