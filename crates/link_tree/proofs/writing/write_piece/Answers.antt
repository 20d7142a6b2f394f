use Rattle.std.proofs.Common.{◌≡◌, ◌+◌, ◌++◌, ◌∙◌, ℕ, List, drop, sym, ap, subst}
use Rattle.std.specs.List.{flat_map}
use Rattle.byte_streams.proofs.Known.{calm_trans}
use Rattle.byte_streams.proofs.Writes.{IsWritten, fails, more_is_written, next_item}
use Rattle.link_tree.specs.Trees.{entry_line}
use Rattle.link_tree.specs.Pieces.{Item}
use Rattle.link_tree.specs.declared.entry.Entry.{Entry}
use Rattle.link_tree.proofs.Rows.{drop_read}
use Rattle.link_tree.proofs.writing.write_piece.Goals as goal

-- the line of an entry is made from its path and the entry there
line_of : {path : List ℕ} {entry : Entry} {item : Item} → path ≡ item.0 → entry ≡ item.1 → entry_line (path, entry) ≡ entry_line item
line_of same stands = λ i. entry_line (same i, stands i)

pub returns-in_err-write_line-clause-writes : goal.returns-in_err-write_line-clause-writes
returns-in_err-write_line-clause-writes g c =
    let items = c.items-placed-items.result.now in
    let i = c.loop-placed.placed-index in
    let left = next_item entry_line (drop i items) c.placed-item.result _ (drop_read items i c.placed-item.result c.loop-placed-test.true c.placed-item.is)
    ∙ ap (λ line. line ++ flat_map entry_line (drop (i + 1) items)) (sym (line_of c.path.ensures c.entry.ensures)) in
    fails _ _ _ _ _ c.write_line.new.writer _ _ _ (subst (IsWritten _ _ _ _ _) left c.loop-placed.invariant.written) _ c.in_err-write_line.ensures.writes _ c.from_residual.ensures

pub loop-placed-preserved : goal.loop-placed-preserved
loop-placed-preserved g c =
    let items = c.items-placed-items.result.now in
    let i = c.loop-placed.placed-index in
    let left = next_item entry_line (drop i items) c.placed-item.result _ (drop_read items i c.placed-item.result c.loop-placed-test.true c.placed-item.is)
    ∙ ap (λ line. line ++ flat_map entry_line (drop (i + 1) items)) (sym (line_of c.path.ensures c.entry.ensures)) in
    record {
      written = more_is_written _ _ _ _ _ _ _ _ _ (subst (IsWritten _ _ _ _ _) left c.loop-placed.invariant.written) c.in_ok-write_line.ensures.writes;
      calm = calm_trans _ _ _ c.loop-placed.invariant.calm c.in_ok-write_line.ensures.counters;
    }
