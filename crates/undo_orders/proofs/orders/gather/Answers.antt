use Rattle.std.proofs.Common.{◌≡◌, ◌++◌, ◌∷◌, [], List, ℕ, length, reverse, subst, sym, ap, ◌∙◌, arith}
use Rattle.undo_orders.specs.ToUndo.{AreToUndo}
use Rattle.undo_orders.proofs.Gathered.{AreSoFar, begun, begins_within, pushed, unpushed, gathered}
use Rattle.undo_orders.proofs.orders.gather.Goals as goal
use Rattle.undo_orders.proofs.orders.gather.Goals.{then-blocks_one+in_ok-push-2, else-blocks_one}

pub loop-place-init : goal.loop-place-init
loop-place-init g c =
    let n = c.args.n in
    let asks = g.O.Operation.asks in
    subst (AreSoFar asks c.args.rows.now n n) (sym (ap (λ (xs : List ℕ). reverse xs) (c.in_ok-push.ensures.items ∙ ap (λ (xs : List ℕ). xs ++ n ∷ []) c.new-numbers.ensures.items))) (begun asks c.args.rows.now n)

pub loop-place-preserved : goal.loop-place-preserved
loop-place-preserved g c =
    let asks = g.O.Operation.asks in
    let rows = c.args.rows.now in
    let p = c.loop-place.place in
    let row = c.index-rows-place.result in
    let numbers = c.loop-place.numbers.items in
    elim c.if-blocks_one.branch [
      | then-blocks_one+in_ok-push-2 w ↦
          pushed asks rows c.args.n c.requires.survives p row c.loop-place-test.true c.index-rows-place.is numbers c.deref.result.now c.deref.ensures.value c.loop-place.invariant
          c.blocks_one.result c.blocks_one.ensures c.if-blocks_one.numbers.items (ap (λ v. v.items) w.numbers-is ∙ w.in_ok-push-2.ensures.items) w.if-blocks_one.true
      | else-blocks_one w ↦
          unpushed asks rows c.args.n c.requires.survives p row c.loop-place-test.true c.index-rows-place.is numbers c.deref.result.now c.deref.ensures.value c.loop-place.invariant
          c.blocks_one.result c.blocks_one.ensures c.if-blocks_one.numbers.items (ap (λ v. v.items) w.numbers-is) w.if-blocks_one.false
    ]

pub returns : goal.returns
returns g c =
    let asks = g.O.Operation.asks in
    let rows = c.args.rows.now in
    let n = c.args.n in
    let numbers = reverse c.loop-place.numbers.items in
    let end = c.loop-place.auto.place-end (begins_within asks rows n c.requires.survives) in
    let all : c.loop-place.place ≡ length rows = omega (arith, c.loop-place-test.false, end) in
    subst (AreToUndo asks rows n) (sym c.reverse.ensures.items) (gathered asks rows n c.requires.survives numbers (subst (λ (p : ℕ). AreSoFar asks rows n p numbers) all c.loop-place.invariant))
