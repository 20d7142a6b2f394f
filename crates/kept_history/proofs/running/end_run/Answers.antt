use Rattle.std.proofs.Common.{[], ◌∷◌, ap, ◌∙◌}
use Rattle.disk.specs.Events.{Commit, SyncHistory, SyncSteps, with_events}
use Rattle.disk.proofs.Doing.{with_with}
use Rattle.kept_history.proofs.Fronts.{does_one}
use Rattle.kept_history.proofs.running.end_run.Goals as goal

pub returns-clause-done : goal.returns-clause-done
returns-clause-done g c =
    does_one _ _ _ c.sync_history.result (SyncSteps c.args.steps.now ∷ Commit ∷ []) SyncHistory
    (c.in_ok-commit.ensures.done ∙ ap (λ o. with_events o (Commit ∷ [])) c.in_ok-sync_steps.ensures.done ∙ with_with _ (SyncSteps c.args.steps.now ∷ []) (Commit ∷ []))
    c.sync_history.ensures.done
