use Rattle.std.proofs.Common.{arith}
use Rattle.root_json.proofs.Plain.{adds_line, deeper}
use Rattle.root_json.proofs.PlainRows.{change_plain}
use Rattle.root_json.proofs.lines.push_change.Goals as goal

pub returns-clause-ok : goal.returns-clause-ok
returns-clause-ok c = adds_line c.push_line.result _ _ _ _ c.in_ok-value.ensures (deeper 3 5 _ (omega arith) (change_plain c.args.change.now)) c.push_line.ensures.ok
