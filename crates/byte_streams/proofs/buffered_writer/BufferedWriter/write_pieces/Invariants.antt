use Rattle.std.proofs.Common.{drop}
use Rattle.std.specs.List.{flat_map}
use Rattle.byte_streams.specs.Streams.{IsCalm}
use Rattle.byte_streams.proofs.Writes.{IsWritten}
use Rattle.byte_streams.proofs.buffered_writer.BufferedWriter.write_pieces.Given as goal

-- the pieces so far were written, and the others remain
abbrev pub invariant-loop-piece : goal.invariant-loop-piece
invariant-loop-piece g l = record {
  written : IsWritten (g.K.Sink.written l.fn.sink) (g.K.Sink.written l.sink) l.fn.self l.self (flat_map (λ piece. piece.now) l.pieces) (flat_map (λ piece. piece.now) (drop l.piece-index l.pieces));
  calm : IsCalm (g.K.Sink.counters l.fn.sink) (g.K.Sink.counters l.sink);
}
