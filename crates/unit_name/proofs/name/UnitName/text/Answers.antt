use Rattle.std.proofs.Common.{◌≡◌, true, ap, subst}
use Rattle.std.specs.Prelude.{is_none}
use Rattle.unit_name.specs.Name.{is_unit_name}
use Rattle.unit_name.proofs.Names.{no_fault_in_name}
use Rattle.unit_name.proofs.name.UnitName.text.Goals as goal

pub returns-clause-test : goal.returns-clause-test
returns-clause-test c = subst (λ text. is_unit_name text ≡ true) c.self.view_is (ap is_none (no_fault_in_name _ c.self.invariant))
