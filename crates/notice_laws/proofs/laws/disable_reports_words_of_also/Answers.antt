use Rattle.notice_laws.proofs.Disabling.{disable_reports}
use Rattle.notice_laws.proofs.laws.disable_reports_words_of_also.Goals as goal

pub returns : goal.returns
returns c = disable_reports
