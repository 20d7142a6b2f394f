use Rattle.std.proofs.Common.{◌≡◌, List, [], sym, subst}
use Rattle.history.specs.declared.row.Row.{Row}
use Rattle.history.specs.Logs.{Log}
use Rattle.history.specs.Rows.{MarksAgree, run, calls_of}
use Rattle.history.specs.Toggles.{AllAlternate}
use Rattle.history.proofs.Alternation.{legal_marks, legal_alternates}
use Rattle.history.proofs.history.History.add_redo.Goals as goal

pub redo_refusal-requires-clause-marks : goal.redo_refusal-requires-clause-marks
redo_refusal-requires-clause-marks g c =
    subst (λ (rows : List (Row g.row.O.Denot)). MarksAgree rows) (sym c.deref.ensures.value)
    (legal_marks g.O.Operation.asks g.O.Operation.meaning c.self.inside.first c.self.inside.rows.items c.self.invariant.0.legal)

pub redo_refusal-requires-clause-alternate : goal.redo_refusal-requires-clause-alternate
redo_refusal-requires-clause-alternate g c =
    subst (λ (rows : List (Row g.row.O.Denot)). AllAlternate rows) (sym c.deref.ensures.value)
    (legal_alternates g.O.Operation.asks g.O.Operation.meaning c.self.inside.first c.self.inside.rows.items c.self.invariant.0.legal)

pub redo_refusal-requires-clause-linked : goal.redo_refusal-requires-clause-linked
redo_refusal-requires-clause-linked g c = rw (c.deref.ensures.value, c.deref-2.ensures.value) c.self.invariant.2

pub returns-in-Some-clause-legal : goal.returns-in-Some-clause-legal
returns-in-Some-clause-legal g c =
    subst (λ (v : Log g.row.O.Denot). v.rows ≡ run g.O.Operation.asks g.O.Operation.meaning v.first [] (calls_of v.rows)) c.self.view_is c.self.invariant.0.legal

pub returns-in-None-clause-legal : goal.returns-in-None-clause-legal
returns-in-None-clause-legal g c =
    subst (λ (v : Log g.row.O.Denot). v.rows ≡ run g.O.Operation.asks g.O.Operation.meaning v.first [] (calls_of v.rows)) c.self.view_is c.self.invariant.0.legal
