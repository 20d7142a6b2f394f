use Rattle.std.proofs.Common.{◌≡◌, ◌≤◌, length, take, drop, Option}
use Rattle.disk.specs.Disks.{Held}
use Rattle.disk.specs.Events.{way_back, with_steps}
use Rattle.disk.specs.Applied.{WereMade}
use Rattle.disk.proofs.applying.take_all_back.Given as goal

-- the first `made` steps are still in place
abbrev pub invariant-loop-made : goal.invariant-loop-made
invariant-loop-made g l =
    (l.made ≤ length l.steps)
    × ((old : Option Held) → WereMade old (g.D.Disk.holds l.fn.disk) l.steps → WereMade old (g.D.Disk.holds l.disk) (take l.made l.steps))
    × (g.D.Disk.done l.disk ≡ with_steps (g.D.Disk.done l.fn.disk) (way_back (drop l.made l.steps)))
    × (g.D.Disk.failures l.disk ≡ g.D.Disk.failures l.fn.disk)

abbrev pub decreases-loop-made : goal.decreases-loop-made
decreases-loop-made g l = l.made
