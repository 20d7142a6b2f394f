use Rattle.std.proofs.Common.{ℕ, List, IfOk, IfErr, subst, ◌∙◌}
use Rattle.link_tree.proofs.Stops.{returned}
use Rattle.shared_admin.specs.Sharing.{Opening}
use Rattle.sessions.specs.Fed.{HasFed}
use Rattle.sessions.specs.Runs.{AreInOrder}
use Rattle.sessions.specs.Faults.{of_open, IsRunError, IfUnclosed, IsUnfedBySome}
use Rattle.sessions.proofs.Reasons.{told_of_open}
use Rattle.sessions.proofs.feeding.run_desk.Goals as goal

pub returns-in_err-admin-clause-why : goal.returns-in_err-admin-clause-why
returns-in_err-admin-clause-why g c =
    let why = c.in_err-admin.field-0.0 in
    (told_of_open c.args.operators (IsUnfedBySome g.O.Operation.asks g.O.Operation.meaning c.args.tree c.args.operators c.args.asks) c.from_residual.result why c.in_err-admin.ensures.unshared
    (returned c.from_residual.result (of_open why) c.from_residual.ensures)).0

pub returns-in_err-admin-clause-unclosed : goal.returns-in_err-admin-clause-unclosed
returns-in_err-admin-clause-unclosed g c =
    let why = c.in_err-admin.field-0.0 in
    (told_of_open c.args.operators (IsUnfedBySome g.O.Operation.asks g.O.Operation.meaning c.args.tree c.args.operators c.args.asks) c.from_residual.result why c.in_err-admin.ensures.unshared
    (returned c.from_residual.result (of_open why) c.from_residual.ensures)).1

pub returns-clause-fed : goal.returns-clause-fed
returns-clause-fed g c =
    subst (λ (o : Opening). IfOk c.feed_and_close.result (λ r. HasFed o.first o.operators c.args.asks r.0 r.1)) c.in_ok-admin.ensures.shared.0 c.feed_and_close.ensures.fed

pub returns-clause-order : goal.returns-clause-order
returns-clause-order g c =
    let names = c.as_slice-3.ensures ∙ c.copied-names.ensures ∙ c.as_slice-2.ensures in
    subst (λ (os : List (List ℕ)). IfOk c.feed_and_close.result (λ r. AreInOrder os r.1)) names c.feed_and_close.ensures.order

pub returns-clause-legal : goal.returns-clause-legal
returns-clause-legal g c = c.feed_and_close.ensures.legal

pub returns-clause-why : goal.returns-clause-why
returns-clause-why g c = subst (λ (o : Opening). IfErr c.feed_and_close.result (λ why. IsRunError o.operators why)) c.in_ok-admin.ensures.shared.0 c.feed_and_close.ensures.why

pub returns-clause-unclosed : goal.returns-clause-unclosed
returns-clause-unclosed g c =
    subst (λ (o : Opening). IfErr c.feed_and_close.result (λ why. IfUnclosed why (IsUnfedBySome g.O.Operation.asks g.O.Operation.meaning o.first o.operators c.args.asks)))
    c.in_ok-admin.ensures.shared.0 c.feed_and_close.ensures.unclosed
