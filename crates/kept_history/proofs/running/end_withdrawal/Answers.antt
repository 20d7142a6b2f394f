use Rattle.std.proofs.Common.{[], ◌∷◌, ap, ◌∙◌}
use Rattle.disk.specs.Events.{Withdraw, SyncHistory, SyncSteps, with_events}
use Rattle.disk.proofs.Doing.{with_with}
use Rattle.kept_history.proofs.Fronts.{does_one}
use Rattle.kept_history.proofs.running.end_withdrawal.Goals as goal

pub returns-clause-done : goal.returns-clause-done
returns-clause-done g c =
    does_one _ _ _ c.sync_history.result (SyncSteps c.args.steps.now ∷ Withdraw ∷ []) SyncHistory
    (c.in_ok-withdraw.ensures.done ∙ ap (λ o. with_events o (Withdraw ∷ [])) c.in_ok-sync_back.ensures.done ∙ with_with _ (SyncSteps c.args.steps.now ∷ []) (Withdraw ∷ []))
    c.sync_history.ensures.done
