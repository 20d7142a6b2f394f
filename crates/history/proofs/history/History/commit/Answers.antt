use Rattle.std.proofs.Common.{◌≡◌, List, length, subst}
use Rattle.link_tree.specs.Trees.{Entries}
use Rattle.tree_access.specs.declared.reading.Observation.{Observation}
use Rattle.tree_access.specs.Readings.{IsFirstOther}
use Rattle.history.specs.Rows.{replay}
use Rattle.history.proofs.Agreed.{stale_not_full}
use Rattle.history.proofs.history.History.commit.Goals as goal

pub returns-in-Err-clause-full : goal.returns-in-Err-clause-full
returns-in-Err-clause-full g c =
    let log = c.args.self.now in
    let t = replay g.O.Operation.asks g.O.Operation.meaning log.first log.rows in
    let key = c.in-Err.key.now in
    let first : IsFirstOther t c.args.plan.outcome.reading key =
    subst (λ (u : Entries). IsFirstOther u c.args.plan.outcome.reading key) c.tree.ensures.tree
    (subst (λ (reading : List Observation). IsFirstOther c.tree.result.now reading key) c.reading.ensures c.in-Err.ensures) in
    stale_not_full t c.args.plan.outcome.reading key c.stale.result (length log.rows ≡ log.limit) first c.stale.ensures.why
