use Rattle.std.proofs.Common.{◌∙◌, ap, Some}
use Rattle.load_path.proofs.Names.{is_named}
use Rattle.slot_commands.proofs.link_units.parse_file_name.Goals as goal

pub returns-in-Ok : goal.returns-in-Ok
returns-in-Ok c = ap Some c.in-Ok.ensures.0 ∙ is_named _ _ c.file_name.ensures c.in-Ok.ensures.1
