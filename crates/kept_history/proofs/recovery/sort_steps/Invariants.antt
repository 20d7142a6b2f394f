use Rattle.std.proofs.Common.{◌≡◌, take}
use Rattle.kept_history.specs.Finishing.{AreAllSorted}
use Rattle.kept_history.proofs.recovery.sort_steps.Given as goal

-- the first n are sorted
abbrev pub invariant-loop-step : goal.invariant-loop-step
invariant-loop-step g l =
    AreAllSorted (g.D.Disk.holds l.fn.disk) (take l.step-index l.steps) l.sorted.due.items l.sorted.foreign.items
    × (g.D.Disk.holds l.disk ≡ g.D.Disk.holds l.fn.disk)
    × (g.D.Disk.done l.disk ≡ g.D.Disk.done l.fn.disk)
    × (g.D.Disk.failures l.disk ≡ g.D.Disk.failures l.fn.disk)
