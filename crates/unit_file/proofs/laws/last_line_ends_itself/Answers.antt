use Rattle.unit_file.proofs.Endings.{alike-push_lf}
use Rattle.unit_file.proofs.Returns.{last_return}
use Rattle.unit_file.proofs.laws.last_line_ends_itself.Goals as goal

pub returns-clause-line_feed : goal.returns-clause-line_feed
returns-clause-line_feed c = alike-push_lf

pub returns-clause-carriage_return : goal.returns-clause-carriage_return
returns-clause-carriage_return c = last_return
