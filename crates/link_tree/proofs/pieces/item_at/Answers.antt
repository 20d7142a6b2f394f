use Rattle.std.proofs.Common.{◌≡◌, [], Some, sym, ap, ◌∙◌}
use Rattle.std.specs.Prelude.{slice_get, slice_index_or}
use Rattle.link_tree.specs.Pieces.{first_of}
use Rattle.link_tree.proofs.Rows.{index_found, past_none, behind_item, behind_none}
use Rattle.link_tree.proofs.pieces.item_at.Goals as goal

pub returns-in-Some : goal.returns-in-Some
returns-in-Some c =
    let pieces = c.args.pieces.now in
    let i = c.args.spot.piece in
    let at = c.args.spot.at in
    let piece = c.in-Some.piece.now in
    let item = c.index-items-spot.result in
    let found : slice_get pieces i ≡ Some piece = index_found pieces i piece [] c.in-Some.ensures.lookup.3.0 (sym (c.in-Some.ensures.lookup.3.1 [])) in
    let there : slice_get piece at ≡ Some item = index_found piece at item item (c.requires piece found) (sym (c.index-items-spot.is ∙ ap (λ items. slice_index_or items at item) c.items.ensures)) in
    ap first_of (sym (behind_item pieces i piece found at item there))

pub returns-in-None : goal.returns-in-None
returns-in-None c = ap first_of (sym (behind_none c.args.pieces.now c.args.spot.piece c.args.spot.at (past_none c.args.pieces.now c.args.spot.piece c.in-None.ensures.lookup.3)))
