use Rattle.std.proofs.Common.{ap, ◌∙◌}
use Rattle.history.specs.Logs.{Log}
use Rattle.history.specs.Rows.{readers_of}
use Rattle.history.proofs.Indexed.{all_found}
use Rattle.history.proofs.history.History.readers.Goals as goal

pub returns : goal.returns
returns g c =
    let asks = g.O.Operation.asks in
    all_found asks c.self.inside.readers c.self.inside.rows.items c.self.invariant.1 c.args.change.now _ c.in_ok-all.ensures
    ∙ ap (λ (v : Log g.row.O.Denot). readers_of asks v.rows c.args.change.now) c.self.view_is
