use Rattle.byte_streams.proofs.Fronts.{line_stops}
use Rattle.byte_streams.proofs.Taken.{stops_decided}
use Rattle.unit_script.proofs.script.read_calls_line.Goals as goal

pub returns-clause-stops : goal.returns-clause-stops
returns-clause-stops g c = stops_decided _ _ _ _ c.calls_line_of.ensures.calm (line_stops _ _ _ _ c.in_ok-line.ensures.line)
