use Rattle.root_json.proofs.Plain.{adds_line}
use Rattle.root_json.proofs.PlainRows.{error_plain}
use Rattle.root_json.proofs.lines.push_error.Goals as goal

pub returns-clause-ok : goal.returns-clause-ok
returns-clause-ok c = adds_line c.push_line.result _ _ _ _ c.in_ok-value.ensures (error_plain _ _ _ _) c.push_line.ensures.ok
