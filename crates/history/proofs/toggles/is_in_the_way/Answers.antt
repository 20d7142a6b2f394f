use Rattle.std.proofs.Common.{◌<◌, List, ap, ◌∙◌, arith}
use Rattle.link_tree.specs.declared.change.Change.{Change}
use Rattle.history.specs.Rows.{meets}
use Rattle.history.proofs.Kept.{row_at_read}
use Rattle.history.proofs.Flips.{in_the_way_read, not_in_the_way_read}
use Rattle.history.proofs.toggles.is_in_the_way.Goals as goal

pub returns-then-is_flipped : goal.returns-then-is_flipped
returns-then-is_flipped g c =
    let row = c.index-rows-place.result in
    let pos : 0 < c.args.k = omega arith in
    let here = row_at_read c.args.rows.now c.args.k row pos c.if-place-rows.false c.index-rows-place.is in
    in_the_way_read g.O.Operation.asks c.args.rows.now c.args.reading.now c.args.was_undone c.args.k row here c.is_flipped.result c.is_flipped.ensures c.meets.result c.if-is_flipped.true
    (c.meets.ensures ∙ ap (λ (changes : List Change). meets changes c.args.reading.now) c.as_slice.ensures)

pub returns-else-is_flipped : goal.returns-else-is_flipped
returns-else-is_flipped g c =
    let row = c.index-rows-place.result in
    let pos : 0 < c.args.k = omega arith in
    let here = row_at_read c.args.rows.now c.args.k row pos c.if-place-rows.false c.index-rows-place.is in
    not_in_the_way_read g.O.Operation.asks c.args.rows.now c.args.reading.now c.args.was_undone c.args.k row here c.is_flipped.result c.is_flipped.ensures c.if-is_flipped.false
