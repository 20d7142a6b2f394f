use Rattle.std.proofs.Common.{◌≡◌, ◌≤◌}
use Rattle.std.specs.Prelude.{IfSome}
use Rattle.std.specs.FinMap as map
use Rattle.disk.specs.Partials.{IsPartial, found_in}
use Rattle.partial_runs.proofs.rounds.run_on_part.Given as goal

-- what was captured so far is a part of what is held, and each round has found an entry more
abbrev pub invariant-loop-round : goal.invariant-loop-round
invariant-loop-round g l =
    IfSome (g.D.Disk.holds l.fn.disk) (λ t. IsPartial t l.partial)
    × (l.round ≤ map.len (found_in l.partial)) × (map.len (found_in l.partial) ≤ 65536)
    × (g.D.Disk.holds l.disk ≡ g.D.Disk.holds l.fn.disk)
    × (g.D.Disk.failures l.disk ≡ g.D.Disk.failures l.fn.disk)
