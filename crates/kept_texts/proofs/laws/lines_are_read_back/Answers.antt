use Rattle.kept_texts.proofs.LinesBack.{headers_are_read, runs_are_read, ends_are_read}
use Rattle.kept_texts.proofs.laws.lines_are_read_back.Goals as goal

pub returns : goal.returns
returns c = record { headers = headers_are_read; runs = runs_are_read; ends = ends_are_read }
