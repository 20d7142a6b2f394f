use Rattle.notice_laws.proofs.Reenabling.{reenable_reports}
use Rattle.notice_laws.proofs.laws.reenable_reports_both_parts.Goals as goal

pub returns : goal.returns
returns c = reenable_reports
