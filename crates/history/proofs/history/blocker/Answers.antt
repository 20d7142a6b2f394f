use Rattle.std.proofs.Common.{◌<◌, sym, ◌∙◌, arith}
use Rattle.history.proofs.Kept.{row_at_read}
use Rattle.history.proofs.Indexed.{found_first}
use Rattle.history.proofs.Blockers.{met_read, none_read}
use Rattle.history.proofs.history.blocker.Goals as goal

pub returns-then-survives : goal.returns-then-survives
returns-then-survives g c =
    let row = c.index-rows-place.result in
    let pos : 0 < c.args.n = omega arith in
    let here = row_at_read c.args.rows.now c.args.n row pos c.if-place-rows.false c.index-rows-place.is in
    met_read g.O.Operation.asks c.args.rows.now c.args.n row here c.as_slice.result.now c.first_after.result (sym c.if-survives.true ∙ c.survives.ensures) c.as_slice.ensures
    (found_first g.O.Operation.asks c.args.readers.now c.args.rows.now c.requires.agrees c.as_slice.result.now c.args.n c.first_after.result c.first_after.ensures)

pub returns-else-survives : goal.returns-else-survives
returns-else-survives g c =
    let row = c.index-rows-place.result in
    let pos : 0 < c.args.n = omega arith in
    let here = row_at_read c.args.rows.now c.args.n row pos c.if-place-rows.false c.index-rows-place.is in
    none_read g.O.Operation.asks c.args.rows.now c.args.n row here (sym c.if-survives.false ∙ c.survives.ensures)
