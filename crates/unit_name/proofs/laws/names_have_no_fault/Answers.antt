use Rattle.unit_name.proofs.Names.{name_from_no_fault, no_fault_in_name}
use Rattle.unit_name.proofs.laws.names_have_no_fault.Goals as goal

pub returns : goal.returns
returns c = λ text. (name_from_no_fault text, no_fault_in_name text)
