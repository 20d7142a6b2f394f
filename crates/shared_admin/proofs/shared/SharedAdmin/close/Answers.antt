use Rattle.std.proofs.Common.{◌≡◌, List, ℕ, subst}
use Rattle.shared_admin.specs.Closing.{IsFault}
use Rattle.shared_admin.specs.Sharing.{Opening}
use Rattle.shared_admin.specs.declared.log.SessionLog.{SessionLog}
use Rattle.shared_admin.proofs.shared.SharedAdmin.close.Goals as goal

pub returns-clause-fault : goal.returns-clause-fault
returns-clause-fault g c =
    subst (λ (opening : Opening). IsFault opening.first opening.operators c.args.logs c.into_inner-history.result c.in-Some.fault) c.self.view_is
    (subst (λ (operators : List (List ℕ)). IsFault c.self.inside.first operators c.args.logs c.into_inner-history.result c.in-Some.fault) c.as_slice.ensures
    (subst (λ (logs : List (SessionLog g.row.O.Denot)). IsFault c.self.inside.first c.as_slice.result.now logs c.into_inner-history.result c.in-Some.fault) c.as_slice-2.ensures c.in-Some.ensures.some.0))
