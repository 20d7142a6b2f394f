use Rattle.root_json.proofs.Plain.{adds_line}
use Rattle.root_json.proofs.PlainRows.{log_plain}
use Rattle.root_json.proofs.logs.push_log_row.Goals as goal

pub returns-clause-ok : goal.returns-clause-ok
returns-clause-ok c = adds_line c.push_line.result _ _ _ _ c.in_ok-value.ensures (log_plain _ _ _ _ c.args.rows.now _ c.args.row.now) c.push_line.ensures.ok
