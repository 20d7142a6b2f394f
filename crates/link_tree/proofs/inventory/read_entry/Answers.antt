use Rattle.byte_streams.proofs.Taken.{stops_later}
use Rattle.link_tree.proofs.Stops.{behind_line, line_stopped}
use Rattle.link_tree.proofs.inventory.read_entry.Goals as goal
use Rattle.link_tree.proofs.inventory.read_entry.Goals.{in-End, in-File}

pub returns-then-room-clause-stops : goal.returns-then-room-clause-stops
returns-then-room-clause-stops g c = stops_later _ _ _ _ _ (behind_line c.args.room _ _ _ c.in_ok-line.ensures.line c.if-room.true) _ c.read_entry_of.ensures.stops

pub returns-clause-stops : goal.returns-clause-stops
returns-clause-stops g c = elim c.match-line.branch [
  | in-End w ↦ rw w.result-is tt
  | in-File w ↦ rw w.result-is (line_stopped c.args.room _ _ _ c.in_ok-line.ensures.line)
]
