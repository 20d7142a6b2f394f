use Rattle.std.proofs.Common.{List, refl, subst}
use Rattle.std.proofs.lemmas.Bool.{false≢true}
use Rattle.link_tree.specs.Trees.{Entries}
use Rattle.tree_access.specs.declared.reading.Observation.{Observation}
use Rattle.tree_access.specs.Readings.{HoldsIn, IsFirstOther}
use Rattle.history.specs.Rows.{replay}
use Rattle.history.proofs.Agreed.{other_off}
use Rattle.history.proofs.history.History.agrees_with.Goals as goal

pub returns-in-Ok : goal.returns-in-Ok
returns-in-Ok g c =
    let reading = c.args.plan.now.outcome.reading in (
      λ same. subst (λ (u : Entries). HoldsIn u reading) c.tree.ensures.tree (subst (λ (r : List Observation). HoldsIn c.tree.result.now r) c.reading-reading.ensures c.in-Ok.ensures),
      λ holds. refl,
    )

pub returns-in-Err : goal.returns-in-Err
returns-in-Err g c =
    let log = c.args.self.now in
    let t = replay g.O.Operation.asks g.O.Operation.meaning log.first log.rows in
    let reading = c.args.plan.now.outcome.reading in
    let key = c.in-Err.field-0.now in
    let first : IsFirstOther t reading key =
    subst (λ (u : Entries). IsFirstOther u reading key) c.tree.ensures.tree
    (subst (λ (r : List Observation). IsFirstOther c.tree.result.now r key) c.reading-reading.ensures c.in-Err.ensures) in
    (λ same. absurd (false≢true same), λ holds. absurd (other_off t reading key first holds))
