use Rattle.unit_script.proofs.OpenLines.{stops_in_calls, stops_in_first_line}
use Rattle.unit_script.proofs.script.read_script.Goals as goal

pub returns-in-Ok-true-clause-stops : goal.returns-in-Ok-true-clause-stops
returns-in-Ok-true-clause-stops g c = stops_in_calls _ _ _ (λ bytes e. rw c.in-Ok-true.field-0-test at c.in-Ok-true.ensures.first bytes e) _ c.read_calls.ensures.stops

pub returns-in-Err-clause-stops : goal.returns-in-Err-clause-stops
returns-in-Err-clause-stops g c = stops_in_first_line _ _ _ _ c.in-Err.is c.read_calls_line.ensures.stops
