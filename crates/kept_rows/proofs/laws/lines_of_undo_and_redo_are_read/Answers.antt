use Rattle.kept_rows.proofs.LineWords.{undo_lines_are_read, redo_lines_are_read}
use Rattle.kept_rows.proofs.laws.lines_of_undo_and_redo_are_read.Goals as goal

pub returns : goal.returns
returns c = record { undo = undo_lines_are_read; redo = redo_lines_are_read }
