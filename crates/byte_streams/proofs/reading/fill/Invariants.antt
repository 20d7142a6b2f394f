use Rattle.std.proofs.Common.{◌≤◌, ◌-◌, length, take}
use Rattle.byte_streams.specs.Streams.{IsCalm}
use Rattle.byte_streams.proofs.Blocks.{Reached}
use Rattle.byte_streams.proofs.reading.fill.Given as goal

-- the front of the room is filled, before the remaining bytes
abbrev pub invariant-pieces : goal.invariant-pieces
invariant-pieces g l = record {
  calm : IsCalm (g.S.Source.counters l.fn.source) (g.S.Source.counters l.source);
  few : l.filled ≤ length l.room;
  bytes : Reached (g.S.Source.left l.fn.source) (g.S.Source.left l.source) (take l.filled l.room);
}

abbrev pub decreases-pieces : goal.decreases-pieces
decreases-pieces g l = length l.room - l.filled
