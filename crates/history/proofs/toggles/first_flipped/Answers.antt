use Rattle.history.proofs.Flips.{found_flipped, none_flipped}
use Rattle.history.proofs.toggles.first_flipped.Goals as goal

pub returns-then-least-n : goal.returns-then-least-n
returns-then-least-n g c =
    found_flipped g.O.Operation.asks c.args.rows.now c.args.links.now c.args.u c.args.n c.args.reading.now c.requires.some c.requires.marks c.requires.alternate c.requires.linked
    c.least_flipped-least.result c.least_flipped-least.ensures c.if-least-n.true

pub returns-else-least-n : goal.returns-else-least-n
returns-else-least-n g c =
    none_flipped g.O.Operation.asks c.args.rows.now c.args.links.now c.args.u c.args.n c.args.reading.now c.requires.some c.requires.marks c.requires.alternate c.requires.linked
    c.least_flipped-least.result c.least_flipped-least.ensures c.if-least-n.false
