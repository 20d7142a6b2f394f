use Rattle.std.proofs.Common.{◌≡◌, Ok, take}
use Rattle.tree_access.specs.Keys.{AgreeOn}
use Rattle.tree_access.specs.Readings.{keys_of}
use Rattle.history.specs.declared.row.Row.{Row}
use Rattle.partial_runs.specs.Captures.{Captures}
use Rattle.partial_runs.proofs.Turns.{OfEach}
use Rattle.partial_runs.proofs.capturing.capture_rows.Given as goal

-- what those before this one looked at was captured
abbrev pub invariant-loop-row : goal.invariant-loop-row
invariant-loop-row g l =
    Captures (g.D.Disk.holds l.fn.disk) l.fn.partial l.partial (Ok tt) (OfEach l.rows (λ t found (row : Row g.row.O.Denot). AgreeOn (keys_of row.reading) found t.entries) (take l.row-index l.rows))
    × (g.D.Disk.holds l.disk ≡ g.D.Disk.holds l.fn.disk)
    × (g.D.Disk.failures l.disk ≡ g.D.Disk.failures l.fn.disk)
