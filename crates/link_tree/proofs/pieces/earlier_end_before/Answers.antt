use Rattle.std.proofs.Common.{◌≡◌, suc, ◌-◌, ◌<◌, length, sym, ◌∙◌, arith}
use Rattle.link_tree.proofs.Rows.{index_found}
use Rattle.link_tree.proofs.Ends.{ends_upto}
use Rattle.link_tree.proofs.pieces.earlier_end_before.Goals as goal

pub returns : goal.returns
returns c ends =
    let pieces = c.args.pieces.now in
    let before = c.args.piece - 1 in
    let some = c.if-piece-eq0.false in
    let upto = c.requires.upto in
    let next : c.args.piece ≡ suc before = search arith in
    let inside : before < length pieces = search arith in
    let piece = c.index-pieces-piece.result in
    let found = index_found pieces before piece piece inside (sym c.index-pieces-piece.is) in
    ends_upto c.args.path.now pieces c.requires.order c.args.piece before piece next found (sym c.ends_before.ensures ∙ ends)
