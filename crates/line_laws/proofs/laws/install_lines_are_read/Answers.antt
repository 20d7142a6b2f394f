use Rattle.line_laws.proofs.InstallReads.{install_read}
use Rattle.line_laws.proofs.laws.install_lines_are_read.Goals as goal

pub returns : goal.returns
returns c = install_read
