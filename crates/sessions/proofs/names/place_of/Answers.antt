use Rattle.std.proofs.Common.{true, false}
use Rattle.sessions.proofs.Places.{by_text, is_there, is_later}
use Rattle.sessions.proofs.names.place_of.Goals as goal

pub returns-then-has_text-clause-there : goal.returns-then-has_text-clause-there
returns-then-has_text-clause-there c =
    let one = c.index-operators-place.result in
    is_there c.args.operators.now c.args.operator.now c.loop-place.place one c.index-operators-place.is c.loop-place-test.true
    (by_text c.text.result.now c.args.operator.now one c.has_text.result true c.text.ensures c.has_text.ensures c.if-has_text.true)

pub loop-place-preserved : goal.loop-place-preserved
loop-place-preserved c =
    let one = c.index-operators-place.result in
    is_later c.args.operators.now c.args.operator.now c.loop-place.place one c.index-operators-place.is c.loop-place-test.true
    (by_text c.text.result.now c.args.operator.now one c.has_text.result false c.text.ensures c.has_text.ensures c.if-has_text.false) c.loop-place.invariant
