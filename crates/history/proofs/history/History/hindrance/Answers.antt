use Rattle.std.proofs.Common.{◌≡◌, List, sym, ap, subst, ◌∙◌}
use Rattle.history.specs.declared.row.Row.{Row}
use Rattle.history.specs.Hindrances.{IsFirstToHinder}
use Rattle.history.specs.Logs.{Log}
use Rattle.history.specs.Rows.{MarksAgree, hindrance}
use Rattle.history.specs.Toggles.{AllAlternate}
use Rattle.history.proofs.Hindering.{hindrance_is}
use Rattle.history.proofs.Alternation.{legal_marks, legal_alternates}
use Rattle.history.proofs.history.History.hindrance.Goals as goal

pub hindrance-requires-clause-marks : goal.hindrance-requires-clause-marks
hindrance-requires-clause-marks g c =
    subst (λ (rows : List (Row g.row.O.Denot)). MarksAgree rows) (sym c.deref.ensures.value)
    (legal_marks g.O.Operation.asks g.O.Operation.meaning c.self.inside.first c.self.inside.rows.items c.self.invariant.0.legal)

pub hindrance-requires-clause-alternate : goal.hindrance-requires-clause-alternate
hindrance-requires-clause-alternate g c =
    subst (λ (rows : List (Row g.row.O.Denot)). AllAlternate rows) (sym c.deref.ensures.value)
    (legal_alternates g.O.Operation.asks g.O.Operation.meaning c.self.inside.first c.self.inside.rows.items c.self.invariant.0.legal)

pub returns-clause-first : goal.returns-clause-first
returns-clause-first g c =
    let asks = g.O.Operation.asks in
    let rows = c.args.self.now.rows in
    let found : c.hindrance.result ≡ hindrance asks rows c.args.n =
    c.hindrance.ensures ∙ ap (λ rs. hindrance asks rs c.args.n) c.deref.ensures.value ∙ ap (λ (v : Log g.row.O.Denot). hindrance asks v.rows c.args.n) c.self.view_is in
    subst (IsFirstToHinder asks rows c.args.n) (sym found) (hindrance_is asks rows c.args.n)

pub hindrance-requires-clause-linked : goal.hindrance-requires-clause-linked
hindrance-requires-clause-linked g c = rw (c.deref.ensures.value, c.deref-2.ensures.value) c.self.invariant.2
