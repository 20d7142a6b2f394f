use Rattle.notice_laws.proofs.Cutting.{no_two}
use Rattle.notice_laws.proofs.laws.no_two_notices_have_one_line.Goals as goal

pub returns : goal.returns
returns c = no_two
