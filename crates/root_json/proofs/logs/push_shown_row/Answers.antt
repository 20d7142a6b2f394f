use Rattle.root_json.proofs.Plain.{adds_line}
use Rattle.root_json.proofs.PlainRows.{shown_plain}
use Rattle.root_json.proofs.logs.push_shown_row.Goals as goal

pub returns-clause-ok : goal.returns-clause-ok
returns-clause-ok c = adds_line c.push_line.result _ _ _ _ c.in_ok-value.ensures (shown_plain _ _ _ _ c.args.rows.now _ c.args.row.now _ _) c.push_line.ensures.ok
