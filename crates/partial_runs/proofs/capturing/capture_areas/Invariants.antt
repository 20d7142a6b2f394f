use Rattle.std.proofs.Common.{◌≡◌, Ok, take}
use Rattle.disk.specs.Partials.{IsIn, AreCaptured}
use Rattle.disk.specs.declared.partial.Area.{Area}
use Rattle.partial_runs.specs.Captures.{Captures}
use Rattle.partial_runs.proofs.Turns.{OfEach}
use Rattle.partial_runs.proofs.capturing.capture_areas.Given as goal

-- those before this one were captured
abbrev pub invariant-loop-area : goal.invariant-loop-area
invariant-loop-area g l =
    Captures (g.D.Disk.holds l.fn.disk) l.fn.partial l.partial (Ok tt) (OfEach l.areas (λ t found (area : Area). AreCaptured t found (IsIn area)) (take l.area-index l.areas))
    × (g.D.Disk.holds l.disk ≡ g.D.Disk.holds l.fn.disk)
    × (g.D.Disk.failures l.disk ≡ g.D.Disk.failures l.fn.disk)
