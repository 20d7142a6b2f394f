use Rattle.std.proofs.Common.{◌≡◌, ◌≤◌, ◌+◌, ◌/◌, ℕ, List, [], length, take, sym, ap, subst, ◌∙◌}
use Rattle.std.specs.Prelude.{slice_set, slice_index_or}
use Rattle.std.specs.List.{insert}
use Rattle.link_tree.specs.Pieces.{Item, joined, AreInOrder}
use Rattle.link_tree.proofs.Rows.{index_found, found_index}
use Rattle.link_tree.proofs.Becoming.{cut_becomes, inside_half}
use Rattle.link_tree.proofs.pieces.cut.Goals as goal

pub returns : goal.returns
returns c =
    let pieces = c.args.pieces.now.items in
    let at = c.args.at in
    let piece = c.index_mut.result.now in
    let same : c.reserve.new.self.items ≡ pieces = c.in_ok-reserve.ensures.items in
    let found = index_found pieces at piece piece c.requires.within (ap (λ qs. slice_index_or qs at piece) (sym same) ∙ sym c.index_mut.ensures.value) in
    let long = subst (λ (q : List Item). 2 ≤ length q) (found_index pieces at piece [] found) c.requires.two in
    let items : c.items.result.now ≡ piece =
    c.items.ensures ∙ c.index.ensures ∙ ap (λ qs. slice_index_or qs at c.index.result.now) same ∙ found_index pieces at piece c.index.result.now found in
    let half = inside_half (length piece) (length c.items.result.now / 2) long (ap (λ (q : List Item). length q / 2) items) in
    let middle : ℕ = length c.items.result.now / 2 in
    let new = c.in_ok-insert.ensures.items ∙ ap (λ qs. insert (slice_set qs at c.split_off.new.self) (at + 1) c.in_ok-rest.rest) same
    ∙ ap (λ q. insert (slice_set pieces at q) (at + 1) c.in_ok-rest.rest) c.in_ok-rest.ensures.kept
    ∙ ap (λ q. insert (slice_set pieces at (take middle piece)) (at + 1) q) c.in_ok-rest.ensures.cut in
    subst (λ qs. AreInOrder qs × (joined qs ≡ joined pieces)) (sym new) (cut_becomes pieces c.requires.order at middle piece found half.0 half.1)
