use Rattle.std.proofs.Common.{[], sym}
use Rattle.link_tree.proofs.Rows.{index_found, past_none}
use Rattle.link_tree.proofs.Ends.{piece_order, spot_inside, spot_behind}
use Rattle.link_tree.proofs.pieces.spot_in.Goals as goal

pub place_of-at-requires : goal.place_of-at-requires
place_of-at-requires c =
    let found = index_found c.args.pieces.now c.args.piece c.in-Some.found.now [] c.in-Some.ensures.lookup.3.0 (sym (c.in-Some.ensures.lookup.3.1 [])) in
    record { sorted = piece_order c.args.pieces.now c.args.piece c.in-Some.found.now c.requires.order found }

pub returns-in-Some : goal.returns-in-Some
returns-in-Some c =
    let pieces = c.args.pieces.now in
    let i = c.args.piece in
    let found = index_found pieces i c.in-Some.found.now [] c.in-Some.ensures.lookup.3.0 (sym (c.in-Some.ensures.lookup.3.1 [])) in
    spot_inside c.args.path.now pieces i c.requires.order c.requires.first.0 c.requires.first.1 c.place_of-at.result c.in-Some.found.now found c.place_of-at.ensures.bound c.place_of-at.ensures.below c.place_of-at.ensures.from

pub returns-in-None : goal.returns-in-None
returns-in-None c =
    let pieces = c.args.pieces.now in
    spot_behind c.args.path.now pieces c.args.piece c.requires.order c.requires.first.0 c.requires.first.1 (past_none pieces c.args.piece c.in-None.ensures.lookup.3)
