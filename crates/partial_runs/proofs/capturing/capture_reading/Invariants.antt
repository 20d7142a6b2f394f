use Rattle.std.proofs.Common.{◌≡◌, Ok, take}
use Rattle.tree_access.specs.declared.reading.Observation.{Observation}
use Rattle.tree_access.specs.Keys.{Agree}
use Rattle.partial_runs.specs.Captures.{Captures}
use Rattle.partial_runs.proofs.Turns.{OfEach}
use Rattle.partial_runs.proofs.capturing.capture_reading.Given as goal

-- what those before this one looked at was captured
abbrev pub invariant-loop-observation : goal.invariant-loop-observation
invariant-loop-observation g l =
    Captures (g.D.Disk.holds l.fn.disk) l.fn.partial l.partial (Ok tt) (OfEach l.observation-items (λ t found (o : Observation). Agree o.key found t.entries) (take l.observation-index l.observation-items))
    × (g.D.Disk.holds l.disk ≡ g.D.Disk.holds l.fn.disk)
    × (g.D.Disk.failures l.disk ≡ g.D.Disk.failures l.fn.disk)
