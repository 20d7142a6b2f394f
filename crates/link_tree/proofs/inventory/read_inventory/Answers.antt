use Rattle.std.proofs.Common.{Err}
use Rattle.link_tree.specs.Reads.{IsUndecided}
use Rattle.link_tree.proofs.Stops.{in_number, stops_whole}
use Rattle.link_tree.proofs.inventory.read_inventory.Goals as goal

pub returns-in-Err-clause-stops : goal.returns-in-Err-clause-stops
returns-in-Err-clause-stops g c = rw c.in_entry.ensures (in_number IsUndecided 0 c.in-Err.e _ _ c.in-Err.ensures.stops)

pub returns-in-Err-read_entries-clause-stops : goal.returns-in-Err-read_entries-clause-stops
returns-in-Err-read_entries-clause-stops g c = stops_whole _ _ _ c.in_default.ensures.header (Err c.in-Err-read_entries.e) c.in-Err-read_entries.ensures.stops
