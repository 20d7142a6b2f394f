use Rattle.std.proofs.Common.{sym, refl}
use Rattle.unit_name.proofs.Names.{faulty, name_from_no_fault}
use Rattle.unit_name.proofs.name.is_unit_name.Goals as goal

pub returns-in-Some-clause-name : goal.returns-in-Some-clause-name
returns-in-Some-clause-name c = (λ yes. absurd (cc), λ name. absurd (faulty c.args.text.now c.in-Some.field-0 (sym c.in-Some.ensures) name))

pub returns-in-None-clause-name : goal.returns-in-None-clause-name
returns-in-None-clause-name c = (λ _. name_from_no_fault c.args.text.now (sym c.in-None.ensures), λ _. refl)
