use Rattle.std.proofs.Common.{◌<◌, Some, None, sym, ◌∙◌, arith}
use Rattle.history.proofs.Kept.{row_at_read}
use Rattle.history.proofs.Blockers.{refused_read, blocked_read}
use Rattle.history.proofs.history.refusal.Goals as goal

pub returns-in-Some : goal.returns-in-Some
returns-in-Some g c =
    let row = c.index-rows-place.result in
    let pos : 0 < c.args.n = omega arith in
    let here = row_at_read c.args.rows.now c.args.n row pos c.if-place-rows.false c.index-rows-place.is in
    refused_read g.O.Operation.asks c.args.rows.now c.args.n row here c.in-Some.refusal (sym c.refusal.ensures ∙ c.in-Some.is)

pub returns-in-Some-blocker : goal.returns-in-Some-blocker
returns-in-Some-blocker g c =
    let row = c.index-rows-place.result in
    let pos : 0 < c.args.n = omega arith in
    let here = row_at_read c.args.rows.now c.args.n row pos c.if-place-rows.false c.index-rows-place.is in
    blocked_read g.O.Operation.asks c.args.rows.now c.args.n row here (Some c.in-Some-blocker.m) (sym c.refusal.ensures ∙ c.in-None.is) (sym c.in-Some-blocker.is ∙ c.blocker.ensures)

pub returns-in-None-blocker : goal.returns-in-None-blocker
returns-in-None-blocker g c =
    let row = c.index-rows-place.result in
    let pos : 0 < c.args.n = omega arith in
    let here = row_at_read c.args.rows.now c.args.n row pos c.if-place-rows.false c.index-rows-place.is in
    blocked_read g.O.Operation.asks c.args.rows.now c.args.n row here None (sym c.refusal.ensures ∙ c.in-None.is) (sym c.in-None-blocker.is ∙ c.blocker.ensures)
