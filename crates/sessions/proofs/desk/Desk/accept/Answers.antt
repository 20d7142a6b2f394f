use Rattle.std.proofs.Common.{◌≤◌, ◌<◌, length, true, arith}
use Rattle.sessions.proofs.Jobs.{taken_seen}
use Rattle.sessions.proofs.Places.{by_text}
use Rattle.sessions.proofs.desk.Desk.accept.Goals as goal

pub returns-clause-ok : goal.returns-clause-ok
returns-clause-ok c =
    let number = c.args.answer.now.number in
    let operator = c.args.answer.now.operator in
    let job = c.index.result.now in
    let issued = c.self.inside.issued.items in
    let some : 0 < number = omega (arith, c.if-answer-eq0.false) in
    let within : number ≤ length issued = omega (arith, c.if-answer-len.false, c.len.ensures, c.self.inside.issued.ok.0) in
    let its = by_text c.text.result.now operator job.operator c.has_text.result true c.text.ensures c.has_text.ensures c.if-not-has_text.false in
    taken_seen issued c.self.inside.is_shut c.args.self.now number operator job c.self.view_is some within c.index.ensures its c.if-job.false
