use Rattle.byte_streams.proofs.Fronts.{line_stops}
use Rattle.byte_streams.proofs.Taken.{failed_sooner, stops_weaker}
use Rattle.link_tree.proofs.Stops.{returned}
use Rattle.unit_script.proofs.OpenLines.{none_open}
use Rattle.unit_script.proofs.script.read_end.Goals as goal

pub returns-in_err-line-clause-stops : goal.returns-in_err-line-clause-stops
returns-in_err-line-clause-stops g c = failed_sooner _ _ none_open _ _ _ _ _ c.in_err-line.was (returned _ _ c.from_residual.ensures) c.read_line.ensures.taken

pub returns-else-is_no_line-clause-stops : goal.returns-else-is_no_line-clause-stops
returns-else-is_no_line-clause-stops g c bytes e =
    let at = line_stops _ _ _ _ c.in_ok-line.ensures.line bytes e in
    (at.0, at.1, at.2, at.3, stops_weaker _ _ none_open at.0 at.1 at.4)
