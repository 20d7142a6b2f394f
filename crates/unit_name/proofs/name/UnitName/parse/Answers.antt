use Rattle.std.proofs.Common.{subst, sym}
use Rattle.unit_name.specs.Parts.{IsUnitName}
use Rattle.unit_name.proofs.Names.{faulty, name_from_no_fault}
use Rattle.unit_name.proofs.name.UnitName.parse.Goals as goal

pub returns-in-Some : goal.returns-in-Some
returns-in-Some c = (sym c.in-Some.ensures, faulty c.args.text.now c.in-Some.fault (sym c.in-Some.ensures))

pub invariant_of-result : goal.invariant_of-result
invariant_of-result c =
    subst IsUnitName (sym c.in_ok-from_slice-in-None.ensures.items) (name_from_no_fault c.args.text.now (sym c.in-None.ensures))

pub returns-in_ok-from_slice-in-None : goal.returns-in_ok-from_slice-in-None
returns-in_ok-from_slice-in-None c =
    (c.in_ok-from_slice-in-None.ensures.items, name_from_no_fault c.args.text.now (sym c.in-None.ensures))
