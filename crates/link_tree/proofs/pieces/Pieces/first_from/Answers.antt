use Rattle.std.proofs.Common.{ap, sym, ◌∙◌}
use Rattle.std.specs.List.{filter}
use Rattle.std.specs.Ordering.{is_le}
use Rattle.link_tree.specs.Trees.{path_cmp}
use Rattle.link_tree.specs.Pieces.{Item, first_of}
use Rattle.link_tree.proofs.Becoming.{from_there}
use Rattle.link_tree.proofs.pieces.Pieces.first_from.Goals as goal

pub returns : goal.returns
returns c =
    let path = c.args.path.now in
    let pieces = c.pieces-pieces in
    let spot = c.spot_of in
    let from = from_there pieces.result.now pieces.ensures.order path spot.result.piece spot.result.at spot.ensures in
    c.item_at.ensures ∙ ap first_of (sym from) ∙ ap (λ items. first_of (filter (λ (item : Item). is_le (path_cmp path item.0)) items)) pieces.ensures.entries
