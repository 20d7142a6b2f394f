use Rattle.refusal_laws.proofs.Linking.{link_refused}
use Rattle.refusal_laws.proofs.laws.link_is_refused_for_these_reasons.Goals as goal

pub returns : goal.returns
returns c = link_refused
