use Rattle.std.proofs.Common.{drop}
use Rattle.std.specs.List.{flat_map}
use Rattle.byte_streams.specs.Streams.{IsCalm}
use Rattle.link_tree.specs.Trees.{entry_line}
use Rattle.byte_streams.proofs.Writes.{IsWritten}
use Rattle.link_tree.proofs.writing.write_piece.Given as goal

-- the lines so far were written, and those of the other entries remain
abbrev pub invariant-loop-placed : goal.invariant-loop-placed
invariant-loop-placed g l = record {
  written : IsWritten (g.K.Sink.written l.fn.sink) (g.K.Sink.written l.sink) l.fn.writer l.writer (flat_map entry_line l.piece) (flat_map entry_line (drop l.placed-index l.placed-items));
  calm : IsCalm (g.K.Sink.counters l.fn.sink) (g.K.Sink.counters l.sink);
}
