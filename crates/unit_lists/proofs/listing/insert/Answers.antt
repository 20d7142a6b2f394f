use Rattle.states.proofs.Ordered.{one_joins}
use Rattle.unit_lists.proofs.listing.insert.Goals as goal

pub returns : goal.returns
returns c = one_joins c.args.texts.now c.insert.new.self c.args.text c.in_ok-insert.ensures.updates.0
