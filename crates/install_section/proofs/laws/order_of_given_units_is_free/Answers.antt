use Rattle.install_section.proofs.Least.{any_order}
use Rattle.install_section.proofs.laws.order_of_given_units_is_free.Goals as goal

pub returns : goal.returns
returns c = any_order
