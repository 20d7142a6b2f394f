use Rattle.std.proofs.Common.{◌≡◌, ◌<◌, ◌≤◌, ◌+◌, ℕ, suc, List, ◌++◌, take, drop, length, refl, sym, ap, subst, ◌∙◌, arith}
use Rattle.std.specs.Prelude.{slice_set}
use Rattle.link_tree.specs.Pieces.{Item, joined, others, AreInOrder}
use Rattle.link_tree.proofs.Rows.{index_found, found_index}
use Rattle.link_tree.proofs.Becoming.{taken_at, set_becomes, taken_out, gone_with_it, on_ok}
use Rattle.link_tree.proofs.pieces.take_out.Goals as goal

pub index-requires : goal.index-requires
index-requires c = taken_at _ c.requires.order _ _ _ c.requires.spot c.args.pieces.now.ok.0 c.requires.taken

pub index_mut-requires : goal.index_mut-requires
index_mut-requires c = taken_at _ c.requires.order _ _ _ c.requires.spot c.args.pieces.now.ok.0 c.requires.taken

pub remove-requires-else-items-gt1 : goal.remove-requires-else-items-gt1
remove-requires-else-items-gt1 c = taken_at _ c.requires.order _ _ _ c.requires.spot c.args.pieces.now.ok.0 c.requires.taken

pub remove-requires : goal.remove-requires
remove-requires c =
    let piece = c.index_mut.result.now in
    let inside = taken_at _ c.requires.order _ _ _ c.requires.spot refl c.requires.taken in
    c.requires.spot.within piece (index_found c.args.pieces.now.items c.args.spot.piece piece piece inside (sym c.index_mut.ensures.value))

pub returns-then-items-gt1 : goal.returns-then-items-gt1
returns-then-items-gt1 c =
    let pieces = c.args.pieces.now.items in
    let path = c.args.path.now in
    let i = c.args.spot.piece in
    let at = c.args.spot.at in
    let piece = c.index_mut.result.now in
    let wanted = others path (joined pieces) in
    let inside = taken_at pieces c.requires.order path i at c.requires.spot refl c.requires.taken in
    let found = index_found pieces i piece piece inside (sym c.index_mut.ensures.value) in
    let same = c.items.ensures ∙ c.index.ensures ∙ found_index pieces i piece c.index.result.now found in
    let two : 1 < length piece = subst (λ (q : List Item). 1 < length q) same c.if-items-gt1.true in
    set_becomes pieces c.requires.order wanted c.remove.result i piece c.remove.new.self found c.remove.ensures.err
    (on_ok c.remove.result (λ is. subst (λ (q : List Item). AreInOrder (slice_set pieces i q) × (joined (slice_set pieces i q) ≡ wanted)) (sym (is ∙ ap (λ n. take at piece ++ drop n piece) (next at))) (taken_out pieces c.requires.order path i at c.requires.spot piece found c.requires.taken two)) c.remove.ensures.ok)
  where
    next : (n : ℕ) → n + 1 ≡ suc n
    next n = omega arith

pub returns-else-items-gt1 : goal.returns-else-items-gt1
returns-else-items-gt1 c =
    let pieces = c.args.pieces.now.items in
    let path = c.args.path.now in
    let i = c.args.spot.piece in
    let at = c.args.spot.at in
    let piece = c.index.result.now in
    let inside = taken_at pieces c.requires.order path i at c.requires.spot refl c.requires.taken in
    let found = index_found pieces i piece piece inside (sym c.index.ensures) in
    let one : length piece ≤ 1 = subst (λ (q : List Item). length q ≤ 1) c.items.ensures c.if-items-gt1.false in
    subst (λ qs. AreInOrder qs × (joined qs ≡ others path (joined pieces))) (sym c.remove-else-items-gt1.ensures.items) (gone_with_it pieces c.requires.order path i at c.requires.spot piece found c.requires.taken one)
