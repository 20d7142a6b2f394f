use Rattle.std.proofs.Common.{◌≡◌, drop}
use Rattle.std.specs.Prelude.{nat_le}
use Rattle.unit_lists.specs.Chosen.{line_len}
use Rattle.unit_lists.proofs.chosen.have_room.Given as goal

-- the names that are left fit into what is left of the room where all of them fit into all of it
abbrev pub invariant-loop-name : goal.invariant-loop-name
invariant-loop-name l = nat_le (line_len (drop l.name-index l.names)) l.room ≡ nat_le (line_len l.names) l.fn.room
