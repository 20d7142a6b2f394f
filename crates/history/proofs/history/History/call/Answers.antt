use Rattle.std.proofs.Common.{ap, ◌∙◌}
use Rattle.history.specs.Plans.{planned}
use Rattle.history.specs.Rows.{replay}
use Rattle.history.proofs.Agreed.{new_plan_agrees}
use Rattle.history.proofs.history.History.call.Goals as goal

-- the plan was made on the current tree
pub add-requires-clause-agrees : goal.add-requires-clause-agrees
add-requires-clause-agrees g c =
    let meaning = g.O.Operation.meaning in
    let t = replay g.O.Operation.asks meaning c.args.self.now.first c.args.self.now.rows in
    new_plan_agrees meaning c.args.operation t c.in_ok-plan.plan (c.in_ok-plan.ensures.plan ∙ ap (planned meaning c.args.operation) c.tree.ensures.tree)
