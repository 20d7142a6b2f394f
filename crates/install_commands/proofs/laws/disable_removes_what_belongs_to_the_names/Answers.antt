use Rattle.install_commands.proofs.Disabled.{disable_removes, disable_refused}
use Rattle.install_commands.proofs.laws.disable_removes_what_belongs_to_the_names.Goals as goal

pub returns : goal.returns
returns c = record { removes = disable_removes; refused = disable_refused }
