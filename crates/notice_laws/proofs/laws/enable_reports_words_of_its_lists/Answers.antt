use Rattle.notice_laws.proofs.Enabling.{enable_reports}
use Rattle.notice_laws.proofs.laws.enable_reports_words_of_its_lists.Goals as goal

pub returns : goal.returns
returns c = enable_reports
