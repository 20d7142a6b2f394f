use Rattle.notice_laws.proofs.Presetting.{preset_reports}
use Rattle.notice_laws.proofs.laws.preset_reports_listed_instances_and_both_parts.Goals as goal

pub returns : goal.returns
returns c = preset_reports
