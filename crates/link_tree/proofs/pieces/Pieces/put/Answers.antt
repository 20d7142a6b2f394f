use Rattle.std.proofs.Common.{◌+◌, length, ap, sym, ◌∙◌}
use Rattle.std.specs.Prelude.{is_some}
use Rattle.std.specs.FinMap as map
use Rattle.link_tree.proofs.Becoming.{found_free, found_taken}
use Rattle.link_tree.proofs.Whole.{put_whole, get_whole, length_over, length_more}
use Rattle.link_tree.proofs.pieces.Pieces.put.Goals as goal

pub invariant_of-self-then-stands_at : goal.invariant_of-self-then-stands_at
invariant_of-self-then-stands_at c =
    let become = c.in_ok-replace.ensures in
    let there = found_taken c.self.inside.pieces.items c.self.invariant.0 c.path-path.ensures c.deref.ensures.value c.deref-2.ensures.value c.spot_near-spot.ensures c.stands_at.ensures c.if-stands_at.true in
    (become.0, c.self.invariant.1 ∙ sym (ap length become.1 ∙ length_over c.self.inside.pieces.items c.self.invariant.0 c.args.placed.0 c.args.placed.1 there))

pub returns-then-stands_at-clause-ok : goal.returns-then-stands_at-clause-ok
returns-then-stands_at-clause-ok c =
    put_whole c.self.inside.pieces.items c.self.invariant.0 c.args.placed.0 c.args.placed.1 c.replace.new.pieces.items c.in_ok-replace.ensures
    ∙ ap (λ m. map.insert m c.args.placed.0 c.args.placed.1) c.self.view_is

pub returns-then-stands_at-clause-stood : goal.returns-then-stands_at-clause-stood
returns-then-stands_at-clause-stood c =
    let pieces = c.self.inside.pieces.items in
    let there = found_taken pieces c.self.invariant.0 c.path-path.ensures c.deref.ensures.value c.deref-2.ensures.value c.spot_near-spot.ensures c.stands_at.ensures c.if-stands_at.true in
    sym there ∙ ap is_some (sym (get_whole pieces c.self.invariant.0 c.args.placed.0)) ∙ ap (λ m. is_some (map.get m c.args.placed.0)) c.self.view_is

pub add-requires-clause-free : goal.add-requires-clause-free
add-requires-clause-free c = found_free c.self.inside.pieces.items c.self.invariant.0 c.path-path.ensures c.deref.ensures.value c.deref-2.ensures.value c.spot_near-spot.ensures c.stands_at.ensures c.if-stands_at.false

pub invariant_of-self-2 : goal.invariant_of-self-2
invariant_of-self-2 c =
    let become = c.in_ok-add.ensures in
    let pieces = c.self.inside.pieces.items in
    let free = found_free pieces c.self.invariant.0 c.path-path.ensures c.deref.ensures.value c.deref-2.ensures.value c.spot_near-spot.ensures c.stands_at.ensures c.if-stands_at.false in
    (become.0, ap (λ n. n + 1) c.self.invariant.1 ∙ sym (ap length become.1 ∙ length_more pieces c.self.invariant.0 c.args.placed.0 c.args.placed.1 free))

pub returns-clause-ok : goal.returns-clause-ok
returns-clause-ok c =
    put_whole c.self.inside.pieces.items c.self.invariant.0 c.args.placed.0 c.args.placed.1 c.add.new.pieces.items c.in_ok-add.ensures
    ∙ ap (λ m. map.insert m c.args.placed.0 c.args.placed.1) c.self.view_is

pub returns-clause-stood : goal.returns-clause-stood
returns-clause-stood c =
    let pieces = c.self.inside.pieces.items in
    let free = found_free pieces c.self.invariant.0 c.path-path.ensures c.deref.ensures.value c.deref-2.ensures.value c.spot_near-spot.ensures c.stands_at.ensures c.if-stands_at.false in
    ap is_some (sym free ∙ sym (get_whole pieces c.self.invariant.0 c.args.placed.0)) ∙ ap (λ m. is_some (map.get m c.args.placed.0)) c.self.view_is
