use Rattle.std.proofs.Common.{◌≡◌, sym, ap, subst, ◌∙◌}
use Rattle.history.specs.Blocks.{IsFirstToBlock}
use Rattle.history.specs.Logs.{Log}
use Rattle.history.specs.Rows.{blocker}
use Rattle.history.proofs.Blocking.{blocker_is}
use Rattle.history.proofs.history.History.blocker.Goals as goal

pub returns-clause-first : goal.returns-clause-first
returns-clause-first g c =
    let asks = g.O.Operation.asks in
    let rows = c.args.self.now.rows in
    let found : c.blocker.result ≡ blocker asks rows c.args.n =
    c.blocker.ensures ∙ ap (λ rs. blocker asks rs c.args.n) c.deref.ensures.value ∙ ap (λ (v : Log g.row.O.Denot). blocker asks v.rows c.args.n) c.self.view_is in
    subst (IsFirstToBlock asks rows c.args.n) (sym found) (blocker_is asks rows c.args.n)
