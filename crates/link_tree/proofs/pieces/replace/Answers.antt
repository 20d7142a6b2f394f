use Rattle.std.proofs.Common.{◌≡◌, List, refl, sym, subst}
use Rattle.std.specs.Prelude.{slice_set}
use Rattle.std.specs.FinMap.{put}
use Rattle.link_tree.specs.Trees.{path_cmp}
use Rattle.link_tree.specs.Pieces.{Item, joined, AreInOrder}
use Rattle.link_tree.proofs.Rows.{index_found}
use Rattle.link_tree.proofs.Becoming.{taken_at, set_becomes, put_over_here, on_ok}
use Rattle.link_tree.proofs.pieces.replace.Goals as goal

pub index_mut-requires : goal.index_mut-requires
index_mut-requires c = taken_at _ c.requires.order _ _ _ c.requires.spot c.args.pieces.now.ok.0 c.requires.taken

pub replace-requires : goal.replace-requires
replace-requires c =
    let piece = c.index_mut.result.now in
    let inside = taken_at _ c.requires.order _ _ _ c.requires.spot refl c.requires.taken in
    c.requires.spot.within piece (index_found c.args.pieces.now.items c.args.spot.piece piece piece inside (sym c.index_mut.ensures.value))

pub returns : goal.returns
returns c =
    let pieces = c.args.pieces.now.items in
    let i = c.args.spot.piece in
    let at = c.args.spot.at in
    let piece = c.index_mut.result.now in
    let wanted = put path_cmp c.args.placed.0 c.args.placed.1 (joined pieces) in
    let inside = taken_at pieces c.requires.order c.args.placed.0 i at c.requires.spot refl c.requires.taken in
    let found = index_found pieces i piece piece inside (sym c.index_mut.ensures.value) in
    set_becomes pieces c.requires.order wanted c.replace.result i piece c.replace.new.self found c.replace.ensures.err
    (on_ok c.replace.result (λ is. subst (λ (q : List Item). AreInOrder (slice_set pieces i q) × (joined (slice_set pieces i q) ≡ wanted)) (sym is) (put_over_here pieces c.requires.order c.args.placed.0 i at c.requires.spot piece found c.args.placed.1 c.requires.taken)) c.replace.ensures.ok)
