use Rattle.std.proofs.Common.{sym, subst}
use Rattle.unit_name.specs.Parts.{IsUnitName}
use Rattle.load_path.proofs.Names.{is_named}
use Rattle.states.proofs.step.parse_name.Goals as goal

pub returns-in-Ok : goal.returns-in-Ok
returns-in-Ok c = is_named _ _ c.in-Ok.ensures.0 (subst IsUnitName (sym c.in-Ok.ensures.0) c.in-Ok.ensures.1)
