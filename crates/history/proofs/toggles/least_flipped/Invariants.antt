use Rattle.std.proofs.Common.{◌≡◌, ◌-◌, drop}
use Rattle.history.specs.Toggles.{least_flipped, is_in_the_way}
use Rattle.history.proofs.toggles.least_flipped.Given as goal

abbrev pub invariant-loop-place : goal.invariant-loop-place
invariant-loop-place g l =
    least_flipped (is_in_the_way g.O.Operation.asks l.rows l.reading) l.u (drop l.place l.rows) (drop l.place l.links) l.least
    ≡ least_flipped (is_in_the_way g.O.Operation.asks l.rows l.reading) l.u (drop (l.u - 1) l.rows) (drop (l.u - 1) l.links) l.n
