use Rattle.std.proofs.Common.{◌≡◌, ◌∙◌, sym}
use Rattle.std.proofs.lemmas.Bool.{true≢false}
use Rattle.shared_admin.specs.Closing.{HasLog}
use Rattle.shared_admin.proofs.Firsts.{first_not, one_more, all_are}
use Rattle.shared_admin.proofs.strangers.missing.Goals as goal

pub returns-then-not-has_log-clause-some : goal.returns-then-not-has_log-clause-some
returns-then-not-has_log-clause-some g c =
    first_not (HasLog c.args.logs.now) c.args.operators.now c.loop-operator.operator-index c.operator-item.result c.operator-item.is c.loop-operator-test.true c.loop-operator.invariant
    (λ has. true≢false (sym has ∙ sym c.has_log.ensures ∙ c.if-not-has_log.true))

pub loop-operator-preserved : goal.loop-operator-preserved
loop-operator-preserved g c =
    one_more (HasLog c.args.logs.now) c.args.operators.now c.loop-operator.operator-index c.operator-item.result c.operator-item.is c.loop-operator-test.true c.loop-operator.invariant
    (sym c.has_log.ensures ∙ c.if-not-has_log.false)

pub returns-clause-none : goal.returns-clause-none
returns-clause-none g c = all_are (HasLog c.args.logs.now) c.args.operators.now c.loop-operator.operator-index c.loop-operator-test.false c.loop-operator.invariant
