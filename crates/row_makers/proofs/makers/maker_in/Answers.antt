use Rattle.std.proofs.Common.{◌≡◌, ◌+◌, length, refl, sym, subst, ◌∙◌, arith}
use Rattle.std.proofs.lemmas.Option.{slice_get_read}
use Rattle.row_makers.proofs.Last.{UpTo, found_here, not_found, is_maker}
use Rattle.row_makers.proofs.makers.maker_in.Goals as goal
use Rattle.row_makers.proofs.makers.maker_in.Goals.{then-makes, else-makes}

pub loop-place-preserved : goal.loop-place-preserved
loop-place-preserved g c =
    let asks = g.O.Operation.asks in
    let rows = c.args.rows.now in
    let path = c.args.path.now in
    let p = c.loop-place.place in
    let row = c.index-rows-place.result in
    let here = slice_get_read rows (length rows) p row refl c.loop-place-test.true c.index-rows-place.is in
    elim c.if-makes.branch [
      | then-makes w ↦
          subst (UpTo asks rows path (p + 1)) (sym w.found-is) (found_here asks rows path p (p + 1) row refl here (sym c.makes.ensures ∙ w.if-makes.true))
      | else-makes w ↦
          subst (UpTo asks rows path (p + 1)) (sym w.found-is) (not_found asks rows path p row c.loop-place.found here (sym c.makes.ensures ∙ w.if-makes.false) c.loop-place.invariant)
    ]

pub returns : goal.returns
returns g c =
    let rows = c.args.rows.now in
    let end = c.loop-place.auto.place-end in
    let all : c.loop-place.place ≡ length rows = omega (arith, c.loop-place-test.false, end) in
    is_maker g.O.Operation.asks rows c.args.path.now c.loop-place.place c.loop-place.found all c.loop-place.invariant
