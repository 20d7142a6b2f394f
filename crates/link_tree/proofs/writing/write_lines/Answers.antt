use Rattle.std.proofs.Common.{drop, subst}
use Rattle.byte_streams.proofs.Known.{calm_trans}
use Rattle.byte_streams.proofs.Writes.{IsWritten, fails, more_is_written}
use Rattle.link_tree.specs.Trees.{entry_line}
use Rattle.link_tree.proofs.Rows.{drop_read, flat_map-joined}
use Rattle.link_tree.proofs.writing.write_lines.Goals as goal

pub returns-in_err-write_piece-clause-writes : goal.returns-in_err-write_piece-clause-writes
returns-in_err-write_piece-clause-writes g c =
    let pieces = c.pieces-piece-items.result.now in
    let i = c.loop-piece.piece-index in
    let left = flat_map-joined entry_line (drop i pieces) c.piece-item.result _ (drop_read pieces i c.piece-item.result c.loop-piece-test.true c.piece-item.is) in
    fails _ _ _ _ _ c.write_piece.new.writer _ _ _ (subst (IsWritten _ _ _ _ _) left c.loop-piece.invariant.written) _ c.in_err-write_piece.ensures.writes _ c.from_residual.ensures

pub loop-piece-preserved : goal.loop-piece-preserved
loop-piece-preserved g c =
    let pieces = c.pieces-piece-items.result.now in
    let i = c.loop-piece.piece-index in
    let left = flat_map-joined entry_line (drop i pieces) c.piece-item.result _ (drop_read pieces i c.piece-item.result c.loop-piece-test.true c.piece-item.is) in
    record {
      written = more_is_written _ _ _ _ _ _ _ _ _ (subst (IsWritten _ _ _ _ _) left c.loop-piece.invariant.written) c.in_ok-write_piece.ensures.writes;
      calm = calm_trans _ _ _ c.loop-piece.invariant.calm c.in_ok-write_piece.ensures.counters;
    }
