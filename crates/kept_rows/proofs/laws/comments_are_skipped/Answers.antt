use Rattle.kept_rows.proofs.LineKinds.{comments_are_skipped, call_lines_are_enough}
use Rattle.kept_rows.proofs.laws.comments_are_skipped.Goals as goal

pub returns : goal.returns
returns c = record { line = comments_are_skipped; lines = call_lines_are_enough }
