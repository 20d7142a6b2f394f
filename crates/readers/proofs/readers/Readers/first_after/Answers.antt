use Rattle.std.proofs.Common.{◌<◌, ◌≤◌, take, length}
use Rattle.std.specs.List.{list_any}
use Rattle.readers.specs.Readers.{is_touched_in}
use Rattle.readers.proofs.Listings.{next_more, next_all}
use Rattle.readers.proofs.readers.Readers.first_after.Goals as goal

pub loop-change-preserved : goal.loop-change-preserved
loop-change-preserved c =
    let r = c.args.self.now in
    let xs = c.args.changes.now in
    let k = c.loop-change.change-index in
    let within : k < length xs = c.loop-change-test.true in
    next_more (λ change. is_touched_in r change) xs k c.args.n c.change-item.result _ within c.change-item.is
    (c.sooner-first.ensures (λ i. list_any (λ change. is_touched_in r change i) (take k xs)) (is_touched_in r c.change-item.result) c.args.n c.loop-change.invariant c.after.ensures)

pub returns : goal.returns
returns c =
    let xs = c.args.changes.now in
    let done : length xs ≤ c.loop-change.change-index = c.loop-change-test.false in
    next_all (λ change. is_touched_in c.args.self.now change) xs c.loop-change.change-index c.args.n c.loop-change.first done c.loop-change.invariant
