use Rattle.std.proofs.Common.{◌≡◌, subst, ◌∙◌}
use Rattle.history.specs.Logs.{Log}
use Rattle.history.specs.Rows.{survivors, after_commands}
use Rattle.history.proofs.Replayed.{replay_survivors}
use Rattle.history.proofs.history.History.tree.Goals as goal

pub returns-clause-survivors : goal.returns-clause-survivors
returns-clause-survivors g c =
    let asks = g.O.Operation.asks in
    let meaning = g.O.Operation.meaning in
    subst (λ (v : Log g.row.O.Denot). c.self.inside.tree ≡ after_commands meaning (survivors asks v.rows) v.first) c.self.view_is
    (c.self.invariant.0.tree_is ∙ replay_survivors asks meaning c.self.inside.first c.self.inside.rows.items)
