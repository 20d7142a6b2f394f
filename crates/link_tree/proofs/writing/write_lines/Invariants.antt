use Rattle.std.proofs.Common.{drop}
use Rattle.std.specs.FinMap as map
use Rattle.std.specs.List.{flat_map}
use Rattle.byte_streams.specs.Streams.{IsCalm}
use Rattle.link_tree.specs.Trees.{entry_line}
use Rattle.link_tree.specs.Pieces.{joined}
use Rattle.byte_streams.proofs.Writes.{IsWritten}
use Rattle.link_tree.proofs.writing.write_lines.Given as goal

-- the lines so far were written, and those of the other pieces remain
abbrev pub invariant-loop-piece : goal.invariant-loop-piece
invariant-loop-piece g l = record {
  written : IsWritten (g.K.Sink.written l.fn.sink) (g.K.Sink.written l.sink) l.fn.writer l.writer (flat_map entry_line (map.entries l.tree)) (flat_map entry_line (joined (drop l.piece-index l.piece-items)));
  calm : IsCalm (g.K.Sink.counters l.fn.sink) (g.K.Sink.counters l.sink);
}
