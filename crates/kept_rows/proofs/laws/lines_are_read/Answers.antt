use Rattle.kept_rows.proofs.LineWords.{lines_are_read}
use Rattle.kept_rows.proofs.OtherLines.{lines_of_others_are_read}
use Rattle.kept_rows.proofs.laws.lines_are_read.Goals as goal

pub returns : goal.returns
returns c = record { words = lines_are_read; others = lines_of_others_are_read }
