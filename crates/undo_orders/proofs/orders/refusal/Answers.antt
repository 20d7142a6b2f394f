use Rattle.std.proofs.Common.{◌<◌, sym, ◌∙◌, arith}
use Rattle.history.proofs.Kept.{row_at_read}
use Rattle.undo_orders.proofs.Gathered.{no_command, is_undone, still_survives}
use Rattle.undo_orders.proofs.orders.refusal.Goals as goal

pub returns-in-Some : goal.returns-in-Some
returns-in-Some g c =
    let row = c.index-rows-place.result in
    let pos : 0 < c.args.n = omega arith in
    let here = row_at_read c.args.rows.now c.args.n row pos c.if-place-rows.false c.index-rows-place.is in
    is_undone g.O.Operation.asks c.args.rows.now c.args.n row here c.in-Some.by (sym c.if-is_command.true ∙ c.is_command.ensures) c.in-Some.is

pub returns-in-None : goal.returns-in-None
returns-in-None g c =
    let row = c.index-rows-place.result in
    let pos : 0 < c.args.n = omega arith in
    let here = row_at_read c.args.rows.now c.args.n row pos c.if-place-rows.false c.index-rows-place.is in
    still_survives g.O.Operation.asks c.args.rows.now c.args.n row here (sym c.if-is_command.true ∙ c.is_command.ensures) c.in-None.is

pub returns-else-is_command : goal.returns-else-is_command
returns-else-is_command g c =
    let row = c.index-rows-place.result in
    let pos : 0 < c.args.n = omega arith in
    let here = row_at_read c.args.rows.now c.args.n row pos c.if-place-rows.false c.index-rows-place.is in
    no_command g.O.Operation.asks c.args.rows.now c.args.n row here (sym c.if-is_command.false ∙ c.is_command.ensures)
