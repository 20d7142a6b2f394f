use Rattle.footprint_laws.proofs.Discovered.{closure_looks_in_order}
use Rattle.footprint_laws.proofs.laws.closures_look_in_order_of_discovery.Goals as goal

pub returns : goal.returns
returns c = closure_looks_in_order
