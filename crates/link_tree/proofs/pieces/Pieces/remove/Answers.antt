use Rattle.std.proofs.Common.{◌≡◌, length, refl, ap, sym, ◌∙◌}
use Rattle.std.specs.FinMap as map
use Rattle.link_tree.specs.Pieces.{joined, others}
use Rattle.link_tree.proofs.Becoming.{found_free, found_taken}
use Rattle.link_tree.proofs.Whole.{others_whole, nothing_taken, length_less, one_back}
use Rattle.link_tree.proofs.pieces.Pieces.remove.Goals as goal

pub overflow_sub-self : goal.overflow_sub-self
overflow_sub-self c =
    let path = c.args.path.now in
    let pieces = c.self.inside.pieces.items in
    let own : c.args.path.now ≡ c.args.path.now = refl in
    let there = found_taken pieces c.self.invariant.0 own c.deref.ensures.value c.deref-2.ensures.value c.spot_of-spot.ensures c.stands_at.ensures c.if-stands_at.true in
    (one_back c.self.inside.count (length (others path (joined pieces))) (length_less pieces c.self.invariant.0 path there ∙ sym c.self.invariant.1)).0

pub invariant_of-self-then-stands_at : goal.invariant_of-self-then-stands_at
invariant_of-self-then-stands_at c =
    let become = c.in_ok-take_out.ensures in
    let path = c.args.path.now in
    let pieces = c.self.inside.pieces.items in
    let own : c.args.path.now ≡ c.args.path.now = refl in
    let there = found_taken pieces c.self.invariant.0 own c.deref.ensures.value c.deref-2.ensures.value c.spot_of-spot.ensures c.stands_at.ensures c.if-stands_at.true in
    (become.0, (one_back c.self.inside.count (length (others path (joined pieces))) (length_less pieces c.self.invariant.0 path there ∙ sym c.self.invariant.1)).1 ∙ sym (ap length become.1))

pub returns-in_ok-take_out-clause-ok : goal.returns-in_ok-take_out-clause-ok
returns-in_ok-take_out-clause-ok c =
    others_whole c.self.inside.pieces.items c.self.invariant.0 c.args.path.now c.take_out.new.pieces.items c.in_ok-take_out.ensures
    ∙ ap (λ m. map.remove m c.args.path.now) c.self.view_is

pub returns-else-stands_at-clause-ok : goal.returns-else-stands_at-clause-ok
returns-else-stands_at-clause-ok c =
    let path = c.args.path.now in
    let pieces = c.self.inside.pieces.items in
    let own : c.args.path.now ≡ c.args.path.now = refl in
    let free = found_free pieces c.self.invariant.0 own c.deref.ensures.value c.deref-2.ensures.value c.spot_of-spot.ensures c.stands_at.ensures c.if-stands_at.false in
    sym c.self.view_is ∙ nothing_taken pieces c.self.invariant.0 path free ∙ ap (λ m. map.remove m path) c.self.view_is
