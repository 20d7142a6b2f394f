use Rattle.std.proofs.Common.{◌≡◌, ◌+◌, ◌≤◌}
use Rattle.std.specs.Prelude.{max}
use Rattle.std.specs.Io.KnownBytes.{Keeps}
use Rattle.byte_streams.proofs.reading.read_some_of_line.Given as goal

-- it was interrupted each time so far
abbrev pub invariant-loop-round : goal.invariant-loop-round
invariant-loop-round g l = record {
  bytes : Keeps (g.S.Source.left l.fn.source) (g.S.Source.left l.source);
  failures : (g.S.Source.counters l.source).failures ≡ (g.S.Source.counters l.fn.source).failures;
  at_least : l._round ≤ (g.S.Source.counters l.source).interruptions;
  at_most : (g.S.Source.counters l.source).interruptions ≤ (g.S.Source.counters l.fn.source).interruptions + l._round;
  longest_row : (g.S.Source.counters l.source).longest_row ≤ max (g.S.Source.counters l.fn.source).longest_row ((g.S.Source.counters l.fn.source).interruptions + l._round);
}
