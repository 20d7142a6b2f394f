use Rattle.std.proofs.Common.{◌<◌, ◌+◌, ◌-◌, List, take, drop, sym, ap, ◌∙◌, arith}
use Rattle.tree_access.specs.declared.reading.Observation.{Observation}
use Rattle.link_tree.specs.declared.change.Change.{Change}
use Rattle.history.specs.Rows.{undoer_before, first_flipped, first_met}
use Rattle.history.proofs.Kept.{row_at_read}
use Rattle.history.proofs.Indexed.{found_first}
use Rattle.history.proofs.Blockers.{undoer_range, unhindered_read, flipped_read, unflipped_read}
use Rattle.history.proofs.history.hindrance.Goals as goal

pub first_flipped-requires-clause-some : goal.first_flipped-requires-clause-some
first_flipped-requires-clause-some g c =
    let row = c.index-rows-place.result in
    let pos : 0 < c.args.n = omega arith in
    let here = row_at_read c.args.rows.now c.args.n row pos c.if-place-rows.false c.index-rows-place.is in
    (undoer_range g.O.Operation.asks c.args.rows.now c.args.n row here c.in-Some.by c.requires.marks (sym c.undone_command.ensures ∙ c.in-Some.is)).0

pub first_flipped-requires-clause-within : goal.first_flipped-requires-clause-within
first_flipped-requires-clause-within g c =
    let row = c.index-rows-place.result in
    let pos : 0 < c.args.n = omega arith in
    let here = row_at_read c.args.rows.now c.args.n row pos c.if-place-rows.false c.index-rows-place.is in
    (undoer_range g.O.Operation.asks c.args.rows.now c.args.n row here c.in-Some.by c.requires.marks (sym c.undone_command.ensures ∙ c.in-Some.is)).1

pub returns-in-None : goal.returns-in-None
returns-in-None g c =
    let row = c.index-rows-place.result in
    let pos : 0 < c.args.n = omega arith in
    let here = row_at_read c.args.rows.now c.args.n row pos c.if-place-rows.false c.index-rows-place.is in
    unhindered_read g.O.Operation.asks c.args.rows.now c.args.n row here (sym c.in-None.is ∙ c.undone_command.ensures)

pub returns-in-Some-first_flipped : goal.returns-in-Some-first_flipped
returns-in-Some-first_flipped g c =
    let asks = g.O.Operation.asks in
    let rows = c.args.rows.now in
    let n = c.args.n in
    let by = c.in-Some.by in
    let row = c.index-rows-place.result in
    let pos : 0 < n = omega arith in
    let here = row_at_read rows n row pos c.if-place-rows.false c.index-rows-place.is in
    let found = c.first_flipped.ensures ∙ ap (λ (reading : List Observation). first_flipped asks (undoer_before rows by) reading (take (n - 1) rows) 1) c.as_slice.ensures in
    flipped_read asks rows n row here by c.in-Some-first_flipped.k (sym c.in-Some.is ∙ c.undone_command.ensures) (sym c.in-Some-first_flipped.is ∙ found)

pub returns-in-None-first_flipped : goal.returns-in-None-first_flipped
returns-in-None-first_flipped g c =
    let asks = g.O.Operation.asks in
    let rows = c.args.rows.now in
    let n = c.args.n in
    let by = c.in-Some.by in
    let row = c.index-rows-place.result in
    let pos : 0 < n = omega arith in
    let here = row_at_read rows n row pos c.if-place-rows.false c.index-rows-place.is in
    let found = c.first_flipped.ensures ∙ ap (λ (reading : List Observation). first_flipped asks (undoer_before rows by) reading (take (n - 1) rows) 1) c.as_slice.ensures in
    let met = found_first asks c.args.readers.now rows c.requires.agrees c.as_slice-in-None-first_flipped.result.now n c.first_after.result c.first_after.ensures in
    unflipped_read asks rows n row here by c.first_after.result (sym c.in-Some.is ∙ c.undone_command.ensures) (sym c.in-None-first_flipped.is ∙ found)
    (met ∙ ap (λ (changes : List Change). first_met asks changes (drop n rows) (n + 1)) c.as_slice-in-None-first_flipped.ensures)
