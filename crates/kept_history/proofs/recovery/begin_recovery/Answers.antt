use Rattle.std.proofs.Common.{[], ◌∷◌}
use Rattle.disk.specs.Events.{SyncHistory, Clear}
use Rattle.kept_history.proofs.Fronts.{does_one}
use Rattle.kept_history.proofs.recovery.begin_recovery.Goals as goal

pub returns-clause-done : goal.returns-clause-done
returns-clause-done g c = does_one _ _ _ c.clear.result (SyncHistory ∷ []) (Clear c.args.steps.now) c.in_ok-sync_history.ensures.done c.clear.ensures.done
