use Rattle.std.proofs.Common.{subst}
use Rattle.byte_streams.proofs.Known.{calm_trans}
use Rattle.byte_streams.proofs.Writes.{IsWritten, fails, more_is_written, next_piece}
use Rattle.byte_streams.proofs.buffered_writer.BufferedWriter.write_pieces.Goals as goal

pub returns-in_err-write-clause-writes : goal.returns-in_err-write-clause-writes
returns-in_err-write-clause-writes g c =
    let left = next_piece (λ piece. piece.now) c.args.pieces.now c.loop-piece.piece-index _ c.loop-piece-test.true in
    fails _ _ _ _ _ c.write.new.self _ _ _ (subst (IsWritten _ _ _ _ _) left c.loop-piece.invariant.written) _ c.in_err-write.ensures.writes _ c.from_residual.ensures

pub loop-piece-preserved : goal.loop-piece-preserved
loop-piece-preserved g c =
    let left = next_piece (λ piece. piece.now) c.args.pieces.now c.loop-piece.piece-index _ c.loop-piece-test.true in
    record {
      written = more_is_written _ _ _ _ _ _ _ _ _ (subst (IsWritten _ _ _ _ _) left c.loop-piece.invariant.written) c.in_ok-write.ensures.writes;
      calm = calm_trans _ _ _ c.loop-piece.invariant.calm c.in_ok-write.ensures.counters;
    }
