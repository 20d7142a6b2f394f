use Rattle.std.proofs.Common.{◌≡◌, ◌<◌, ◌≤◌, Some, List, sym, subst, ◌∙◌}
use Rattle.std.specs.Prelude.{slice_get, slice_set}
use Rattle.std.specs.FinMap.{put}
use Rattle.link_tree.specs.Trees.{path_cmp}
use Rattle.link_tree.specs.Pieces.{Item, joined, AreInOrder}
use Rattle.link_tree.proofs.Rows.{index_found, past_none}
use Rattle.link_tree.proofs.Becoming.{all_below, set_becomes, put_new_here, on_ok}
use Rattle.link_tree.proofs.pieces.add_at.Goals as goal

pub add_behind-requires-clause-below : goal.add_behind-requires-clause-below
add_behind-requires-clause-below c =
    all_below c.args.pieces.now.items c.requires.order c.args.placed.0 c.args.spot.piece c.args.spot.at c.requires.spot (past_none c.args.pieces.now.items c.args.spot.piece (subst (λ n. n ≤ c.args.spot.piece) (c.len.ensures ∙ c.args.pieces.now.ok.0) c.if-spot-len.false))

pub returns-then-spot-len : goal.returns-then-spot-len
returns-then-spot-len c =
    let pieces = c.args.pieces.now.items in
    let i = c.args.spot.piece in
    let piece = c.index_mut.result.now in
    let wanted = put path_cmp c.args.placed.0 c.args.placed.1 (joined pieces) in
    let found : slice_get pieces i ≡ Some piece = index_found pieces i piece piece (subst (λ n. i < n) (c.len.ensures ∙ c.args.pieces.now.ok.0) c.if-spot-len.true) (sym c.index_mut.ensures.value) in
    set_becomes pieces c.requires.order wanted c.insert.result i piece c.insert.new.self found c.insert.ensures.err
    (on_ok c.insert.result (λ is. subst (λ (q : List Item). AreInOrder (slice_set pieces i q) × (joined (slice_set pieces i q) ≡ wanted)) (sym is) (put_new_here pieces c.requires.order c.args.placed.0 i c.args.spot.at c.requires.spot piece found c.args.placed.1 c.requires.free)) c.insert.ensures.ok)
