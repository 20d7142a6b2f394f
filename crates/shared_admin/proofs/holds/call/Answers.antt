use Rattle.std.proofs.Common.{◌≡◌, ap, subst, ◌∙◌}
use Rattle.tree_access.specs.Readings.{reading_of, IsFirstOther}
use Rattle.history.specs.Plans.{Planned, planned}
use Rattle.history.specs.Rows.{replay}
use Rattle.history.specs.declared.row.RowReply.TheVariants.{Answered}
use Rattle.history.proofs.Agreed.{own_reading, other_off}
use Rattle.shared_admin.specs.Holds.{KeepsPlan, Settles}
use Rattle.shared_admin.specs.declared.holds.Settled.{Settled}
use Rattle.shared_admin.proofs.holds.call.Goals as goal

-- a plan that was just made agrees with the tree
pub unreachable-requires : goal.unreachable-requires
unreachable-requires g c =
    let asks = g.O.Operation.asks in
    let meaning = g.O.Operation.meaning in
    let now = replay asks meaning c.args.history.now.first c.args.history.now.rows in
    let settled = subst (λ (s : Settled (Planned g.row.O.Denot)). Settles asks meaning c.args.history.now c.args.operator c.in_ok-plan.plan c.commit.new.history s) c.in-Ok-Stale.field-0-is c.in-Ok-Stale.ensures.settled in
    let made = c.in_ok-plan.ensures.plan ∙ ap (planned meaning c.args.operation) c.tree.ensures.tree in
    other_off now (reading_of ((meaning c.args.operation).keys now) now) c.in-Ok-Stale.field-0-1
    (subst (λ (p : Planned g.row.O.Denot). IsFirstOther now p.outcome.reading c.in-Ok-Stale.field-0-1) made settled.0)
    (own_reading ((meaning c.args.operation).keys now) now)

-- the answer is that of the plan, which was made on the tree of this moment
pub returns-in-Ok-Committed-clause-asked : goal.returns-in-Ok-Committed-clause-asked
returns-in-Ok-Committed-clause-asked g c =
    let kept = subst (λ (s : Settled (Planned g.row.O.Denot)). KeepsPlan c.in_ok-plan.plan s) c.in-Ok-Committed.field-0-is c.in-Ok-Committed.ensures.kept in
    (c.tree.result.now, kept ∙ ap (λ (p : Planned g.row.O.Denot). Answered p.outcome.answer) c.in_ok-plan.ensures.plan)
