use Rattle.std.proofs.Common.{◌∙◌, sym}
use Rattle.shared_admin.proofs.Distinct.{one_apart, not_apart, all_apart}
use Rattle.shared_admin.proofs.operators.are_distinct.Goals as goal

pub returns-then-is_among-clause-no : goal.returns-then-is_among-clause-no
returns-then-is_among-clause-no c is_false = not_apart c.args.operators.now c.loop-place.place c.index-operators-place.result c.index-operators-place.is c.loop-place-test.true c.loop-place.invariant (sym c.is_among.ensures ∙ c.if-is_among.true)

pub loop-place-preserved : goal.loop-place-preserved
loop-place-preserved c = one_apart c.args.operators.now c.loop-place.place c.index-operators-place.result c.index-operators-place.is c.loop-place-test.true c.loop-place.invariant (sym c.is_among.ensures ∙ c.if-is_among.false)

pub returns-clause-yes : goal.returns-clause-yes
returns-clause-yes c is_true = all_apart c.args.operators.now c.loop-place.place c.loop-place-test.false c.loop-place.invariant
