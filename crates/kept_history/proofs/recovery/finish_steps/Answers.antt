use Rattle.std.proofs.Common.{[], ◌∷◌, ◌++◌, map as list_map, ap, subst, ◌∙◌}
use Rattle.std.specs.Option.{option_map}
use Rattle.disk.specs.Disks.{of_disk}
use Rattle.disk.specs.Steps.{failures_with}
use Rattle.disk.specs.Applied.{Stops, after_steps}
use Rattle.disk.specs.Events.{SyncHistory, Clear, Commit, Make}
use Rattle.kept_history.specs.Runs.{ending}
use Rattle.kept_history.proofs.Fronts.{stops_first}
use Rattle.kept_history.proofs.Parts.{recovery_done, recovery_ends, recovery_stops, counted_alike}
use Rattle.kept_history.proofs.recovery.finish_steps.Goals as goal

pub returns-in-Ok-end_run-clause-done : goal.returns-in-Ok-end_run-clause-done
returns-in-Ok-end_run-clause-done g c =
    recovery_done _ _ c.args.steps.now c.args.due.now c.in-Ok.ensures.done _ _ c.in-Ok-make_all.ensures.done c.in-Ok-end_run.ensures.done

pub returns-in-Ok-end_run-clause-made : goal.returns-in-Ok-end_run-clause-made
returns-in-Ok-end_run-clause-made g c =
    c.in-Ok-end_run.ensures.kept ∙ c.in-Ok-make_all.ensures.made.1 ∙ ap (option_map (after_steps c.args.due.now)) c.in-Ok.ensures.kept

pub returns-in-Err-end_run-clause-done : goal.returns-in-Err-end_run-clause-done
returns-in-Err-end_run-clause-done g c =
    recovery_ends _ _ c.args.steps.now c.args.due.now c.in-Ok.ensures.done _ _ c.in-Ok-make_all.ensures.done c.in-Err-end_run.ensures.done

pub returns-in-Err-end_run-clause-counted : goal.returns-in-Err-end_run-clause-counted
returns-in-Err-end_run-clause-counted g c =
    c.in-Err-end_run.ensures.counted ∙ counted_alike _ c.in-Err-end_run.why
    ∙ ap (λ n. failures_with n (of_disk c.in-Err-end_run.why)) (c.in-Ok-make_all.ensures.counted ∙ c.in-Ok.ensures.counted)

pub returns-in-Err-make_all-clause-done : goal.returns-in-Err-make_all-clause-done
returns-in-Err-make_all-clause-done g c =
    recovery_stops _ _ c.args.steps.now c.args.due.now c.in-Ok.ensures.done c.in-Err-make_all.stop.step _ c.in-Err-make_all.ensures.some_done

pub returns-in-Err-make_all-clause-stops : goal.returns-in-Err-make_all-clause-stops
returns-in-Err-make_all-clause-stops g c = (
  c.in-Err-make_all.stop.step,
  subst (λ h. Stops h c.args.due.now c.in-Err-make_all.stop.step c.in-Err-make_all.stop.why) c.in-Ok.ensures.kept c.in-Err-make_all.ensures.stops,
)

pub returns-in-Err-make_all-clause-counted : goal.returns-in-Err-make_all-clause-counted
returns-in-Err-make_all-clause-counted g c =
    c.in-Err-make_all.ensures.counted ∙ ap (λ n. failures_with n c.in-Err-make_all.stop.why) c.in-Ok.ensures.counted

pub returns-in-Err-clause-done : goal.returns-in-Err-clause-done
returns-in-Err-clause-done g c =
    stops_first _ _ (SyncHistory ∷ Clear c.args.steps.now ∷ []) (list_map Make c.args.due.now ++ ending Commit c.args.steps.now) c.in-Err.ensures.done

pub returns-in-Err-clause-counted : goal.returns-in-Err-clause-counted
returns-in-Err-clause-counted g c = c.in-Err.ensures.counted ∙ counted_alike _ c.in-Err.why
