use Rattle.kept_texts.proofs.CallLines.{call_lines_are_lines, lines_are_call_lines}
use Rattle.kept_texts.proofs.laws.accepted_lines_are_lines.Goals as goal

pub returns : goal.returns
returns c = record { lines = call_lines_are_lines; all = lines_are_call_lines }
