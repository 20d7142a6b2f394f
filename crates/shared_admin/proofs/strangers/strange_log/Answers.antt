use Rattle.std.proofs.Common.{refl}
use Rattle.shared_admin.proofs.Own.{none_own, one_own, first_strange}
use Rattle.shared_admin.proofs.strangers.strange_log.Goals as goal

pub loop-place-init : goal.loop-place-init
loop-place-init g c = none_own c.args.operators.now

pub returns-then-not-is_own_log-clause-some : goal.returns-then-not-is_own_log-clause-some
returns-then-not-is_own_log-clause-some g c =
    first_strange c.args.operators.now c.args.logs.now c.loop-place.place c.index-logs-place.result c.index-logs-place.is c.loop-place-test.true c.loop-place.invariant (c.is_own_log.ensures.no c.if-not-is_own_log.true) c.index-logs-place.result.operator refl

pub loop-place-preserved : goal.loop-place-preserved
loop-place-preserved g c =
    one_own c.args.operators.now c.args.logs.now c.loop-place.place c.index-logs-place.result c.index-logs-place.is c.loop-place-test.true c.loop-place.invariant (c.is_own_log.ensures.yes c.if-not-is_own_log.false)
