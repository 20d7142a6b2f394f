use Rattle.std.proofs.Common.{sym}
use Rattle.unit_name.specs.Specifiers.{is_dash}
use Rattle.unit_name.proofs.Cuts.{after_last-none}
use Rattle.unit_name.proofs.specifier.after_last_dash.Goals as goal

pub returns-in-None : goal.returns-in-None
returns-in-None c = sym (after_last-none is_dash 0 c.args.text.now c.in-None.ensures)
