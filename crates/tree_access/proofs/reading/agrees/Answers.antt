use Rattle.std.proofs.Common.{subst}
use Rattle.tree_access.specs.Readings.{HoldsIn, IsFirstOther}
use Rattle.tree_access.proofs.Agreed.{first_other, one_more, all_hold}
use Rattle.tree_access.proofs.reading.agrees.Goals as goal

pub returns-then-not-holds : goal.returns-then-not-holds
returns-then-not-holds c =
    subst (λ items. IsFirstOther c.args.tree.now items c.observation-item.result.key) c.as_slice-observation-items.ensures
    (first_other c.args.tree.now c.as_slice-observation-items.result.now c.loop-observation.observation-index c.observation-item.result c.observation-item.is c.loop-observation-test.true c.loop-observation.invariant
    (λ h. cc (c.holds.ensures.no h, c.if-not-holds.true)))

pub loop-observation-preserved : goal.loop-observation-preserved
loop-observation-preserved c =
    one_more c.args.tree.now c.as_slice-observation-items.result.now c.loop-observation.observation-index c.observation-item.result c.observation-item.is c.loop-observation-test.true c.loop-observation.invariant
    (c.holds.ensures.yes (cc (c.if-not-holds.false)))

pub returns : goal.returns
returns c =
    subst (HoldsIn c.args.tree.now) c.as_slice-observation-items.ensures
    (all_hold c.args.tree.now c.as_slice-observation-items.result.now c.loop-observation.observation-index c.loop-observation-test.false c.loop-observation.invariant)
