use Rattle.std.proofs.Common.{◌≡◌, ◌<◌, ◌≤◌, suc, List, [], ◌∷◌, ◌++◌, length, sym, ap, subst, ◌∙◌, arith, rules}
use Rattle.std.specs.Prelude.{slice_set}
use Rattle.std.specs.FinMap.{put}
use Rattle.link_tree.specs.Trees.{path_cmp}
use Rattle.link_tree.specs.Pieces.{Item, joined, AreInOrder}
use Rattle.link_tree.proofs.Rows.{index_found, found_index}
use Rattle.link_tree.proofs.Becoming.{set_becomes, put_in_last, put_behind, on_ok, at_end}
use Rattle.link_tree.proofs.pieces.add_behind.Goals as goal

pub returns : goal.returns
returns c =
    let pieces = c.args.pieces.now.items in
    let i = c.in-Some.last in
    let piece = c.index_mut.result.now in
    let wanted = put path_cmp c.args.placed.0 c.args.placed.1 (joined pieces) in
    let count : c.len.result ≡ length pieces = c.len.ensures ∙ c.args.pieces.now.ok.0 in
    let inside : i < length pieces = search (rules, arith) in
    let last : length pieces ≤ suc i = search (rules, arith) in
    let found = index_found pieces i piece piece inside (sym c.index_mut.ensures.value) in
    let same = c.items-end.ensures ∙ c.index-2.ensures ∙ found_index pieces i piece c.index-2.result.now found in
    set_becomes pieces c.requires.order wanted c.insert.result i piece c.insert.new.self found c.insert.ensures.err
    (on_ok c.insert.result (λ is. subst (λ (q : List Item). AreInOrder (slice_set pieces i q) × (joined (slice_set pieces i q) ≡ wanted)) (sym is) (put_in_last pieces c.requires.order c.args.placed.0 c.args.placed.1 c.requires.below i (length c.items-end.result.now) piece found last (at_end (ap (λ (q : List Item). length q) same)))) c.insert.ensures.ok)

pub returns-2 : goal.returns-2
returns-2 c =
    let pieces = c.args.pieces.now.items in
    let wanted = put path_cmp c.args.placed.0 c.args.placed.1 (joined pieces) in
    subst (λ qs. AreInOrder qs × (joined qs ≡ wanted)) (sym (c.in_ok-push.ensures.items ∙ ap (λ q. pieces ++ q ∷ []) c.in_ok-of_one.ensures)) (put_behind pieces c.requires.order c.args.placed.0 c.args.placed.1 c.requires.below)
