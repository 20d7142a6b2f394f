use Rattle.kept_rows.proofs.Appended.{histories_are_inputs, runs_are_appended}
use Rattle.kept_rows.proofs.laws.a_history_is_an_input.Goals as goal

pub returns : goal.returns
returns c = record { input = histories_are_inputs; appended = runs_are_appended }
