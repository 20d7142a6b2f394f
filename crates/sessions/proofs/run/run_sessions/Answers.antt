use Rattle.std.proofs.Common.{ℕ, List, IfOk, IfErr, subst, ap, ◌∙◌}
use Rattle.link_tree.proofs.Stops.{returned}
use Rattle.shared_admin.specs.Sharing.{Opening, IsUnshared}
use Rattle.sessions.specs.declared.works.Work.{Work}
use Rattle.sessions.specs.Runs.{operators_of, HasRun}
use Rattle.sessions.specs.Faults.{of_open, IsRunError, IfUnclosed, IsUnclosed}
use Rattle.sessions.proofs.Reasons.{opening, told_of_open}
use Rattle.sessions.proofs.run.run_sessions.Goals as goal

pub returns-in_err-admin-clause-why : goal.returns-in_err-admin-clause-why
returns-in_err-admin-clause-why g c =
    let why = c.in_err-admin.field-0.0 in
    let named = c.operators_of-operators.ensures ∙ ap (λ (works : List (Work g.row.O.Denot)). operators_of works) c.as_slice-2.ensures in
    let unshared = subst (λ (os : List (List ℕ)). IsUnshared os why) named c.in_err-admin.ensures.unshared in
    (told_of_open (operators_of c.args.works) (IsUnclosed g.O.Operation.asks g.O.Operation.meaning c.args.tree (operators_of c.args.works)) c.from_residual.result why unshared
    (returned c.from_residual.result (of_open why) c.from_residual.ensures)).0

pub returns-in_err-admin-clause-unclosed : goal.returns-in_err-admin-clause-unclosed
returns-in_err-admin-clause-unclosed g c =
    let why = c.in_err-admin.field-0.0 in
    let named = c.operators_of-operators.ensures ∙ ap (λ (works : List (Work g.row.O.Denot)). operators_of works) c.as_slice-2.ensures in
    let unshared = subst (λ (os : List (List ℕ)). IsUnshared os why) named c.in_err-admin.ensures.unshared in
    (told_of_open (operators_of c.args.works) (IsUnclosed g.O.Operation.asks g.O.Operation.meaning c.args.tree (operators_of c.args.works)) c.from_residual.result why unshared
    (returned c.from_residual.result (of_open why) c.from_residual.ensures)).1

pub returns-clause-ran : goal.returns-clause-ran
returns-clause-ran g c = subst (λ (o : Opening). IfOk c.serve_and_close.result (λ r. HasRun o.first c.args.works r.0 r.1)) c.in_ok-admin.ensures.shared.0 c.serve_and_close.ensures.ran

pub returns-clause-order : goal.returns-clause-order
returns-clause-order g c = c.serve_and_close.ensures.order

pub returns-clause-legal : goal.returns-clause-legal
returns-clause-legal g c = c.serve_and_close.ensures.legal

pub returns-clause-why : goal.returns-clause-why
returns-clause-why g c =
    let named = c.operators_of-operators.ensures ∙ ap (λ (works : List (Work g.row.O.Denot)). operators_of works) c.as_slice-2.ensures in
    let opened = c.in_ok-admin.ensures.shared.0 ∙ ap (opening c.args.tree) named in
    subst (λ (o : Opening). IfErr c.serve_and_close.result (λ why. IsRunError o.operators why)) opened c.serve_and_close.ensures.why

pub returns-clause-unclosed : goal.returns-clause-unclosed
returns-clause-unclosed g c =
    let named = c.operators_of-operators.ensures ∙ ap (λ (works : List (Work g.row.O.Denot)). operators_of works) c.as_slice-2.ensures in
    let opened = c.in_ok-admin.ensures.shared.0 ∙ ap (opening c.args.tree) named in
    subst (λ (o : Opening). IfErr c.serve_and_close.result (λ why. IfUnclosed why (IsUnclosed g.O.Operation.asks g.O.Operation.meaning o.first o.operators)))
    opened c.serve_and_close.ensures.unclosed
