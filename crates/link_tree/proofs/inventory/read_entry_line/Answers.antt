use Rattle.std.proofs.Common.{ap}
use Rattle.byte_streams.proofs.Fronts.{line_stops}
use Rattle.byte_streams.proofs.Taken.{stops_decided, stops_weaker}
use Rattle.link_tree.specs.Inventory.{line_of_front}
use Rattle.link_tree.proofs.inventory.read_entry_line.Goals as goal

pub returns-clause-stops : goal.returns-clause-stops
returns-clause-stops g c =
    stops_decided _ _ _ _ c.line_of_read.ensures.calm (λ bytes e.
    let at = line_stops _ _ _ _ c.in_ok-line.ensures.line bytes e in
    (at.0, at.1, at.2, at.3, stops_weaker _ _ (λ taken still. ap line_of_front still) at.0 at.1 at.4))
