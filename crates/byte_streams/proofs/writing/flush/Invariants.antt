use Rattle.std.proofs.Common.{◌≡◌, ◌+◌, ◌≤◌}
use Rattle.std.specs.Prelude.{max}
use Rattle.std.specs.Io.KnownBytes.{Keeps}
use Rattle.byte_streams.proofs.writing.flush.Given as goal

-- it was interrupted each time so far
abbrev pub invariant-loop-tried : goal.invariant-loop-tried
invariant-loop-tried g l = record {
  bytes : Keeps (g.K.Sink.written l.fn.sink) (g.K.Sink.written l.sink);
  failures : (g.K.Sink.counters l.sink).failures ≡ (g.K.Sink.counters l.fn.sink).failures;
  at_least : l._tried ≤ (g.K.Sink.counters l.sink).interruptions;
  at_most : (g.K.Sink.counters l.sink).interruptions ≤ (g.K.Sink.counters l.fn.sink).interruptions + l._tried;
  longest_row : (g.K.Sink.counters l.sink).longest_row ≤ max (g.K.Sink.counters l.fn.sink).longest_row ((g.K.Sink.counters l.fn.sink).interruptions + l._tried);
}
