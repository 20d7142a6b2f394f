use Rattle.link_tree.proofs.Stops.{returned}
use Rattle.unit_script.proofs.OpenLines.{script_input_stops}
use Rattle.unit_script.proofs.running.read_input.Goals as goal

pub returns-in_err-calls-clause-stops : goal.returns-in_err-calls-clause-stops
returns-in_err-calls-clause-stops g c = rw (returned _ _ c.from_residual-in_err-calls.ensures) (script_input_stops _ _ _ _ c.in_ok-tree.ensures.tree _ c.in_err-calls.ensures.stops)
