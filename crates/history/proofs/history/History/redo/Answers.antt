use Rattle.std.proofs.Common.{subst, sym}
use Rattle.history.specs.Rows.{IdleStays, Restores}
use Rattle.history.specs.Hindrances.{TellsRedoRefusal}
use Rattle.history.proofs.AtOnce.{redo_stays}
use Rattle.history.proofs.Hindering.{redo_refusal_told_is}
use Rattle.history.proofs.Remain.{restores}
use Rattle.history.proofs.history.History.redo.Goals as goal

pub returns-in_ok-add_redo-clause-idle : goal.returns-in_ok-add_redo-clause-idle
returns-in_ok-add_redo-clause-idle g c =
    let asks = g.O.Operation.asks in
    let meaning = g.O.Operation.meaning in
    subst (IdleStays asks meaning c.args.self.now.first c.args.self.now.rows) (sym c.in_ok-add_redo.ensures.rows)
    (redo_stays asks meaning c.args.self.now.first c.args.self.now.rows c.args.operator c.args.n)

pub returns-in_ok-add_redo-clause-why : goal.returns-in_ok-add_redo-clause-why
returns-in_ok-add_redo-clause-why g c =
    let asks = g.O.Operation.asks in
    let rows = c.args.self.now.rows in
    subst (λ now. TellsRedoRefusal asks rows now c.args.n) (sym c.in_ok-add_redo.ensures.rows) (redo_refusal_told_is asks rows c.args.operator c.args.n)

pub returns-in_ok-add_redo-clause-restored : goal.returns-in_ok-add_redo-clause-restored
returns-in_ok-add_redo-clause-restored g c =
    let asks = g.O.Operation.asks in
    let meaning = g.O.Operation.meaning in
    subst (Restores asks meaning c.args.self.now.first c.args.self.now.rows c.args.n) (sym c.in_ok-add_redo.ensures.rows)
    (restores g.met.O.Operation.laws c.args.self.now.first c.args.self.now.rows c.add_redo.ensures.legal c.args.operator c.args.n)
