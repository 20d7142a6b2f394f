use Rattle.root_json.proofs.Plain.{adds_line}
use Rattle.root_json.proofs.PlainRows.{unit_file_plain}
use Rattle.root_json.proofs.lines.push_unit_file.Goals as goal

pub returns-clause-ok : goal.returns-clause-ok
returns-clause-ok c = adds_line c.push_line.result _ _ _ _ c.in_ok-value.ensures (unit_file_plain _ _ _) c.push_line.ensures.ok
