use Rattle.std.proofs.Common.{◌≡◌, ℕ, false, cond, suc, List, [], Ok}
use Rattle.disk.specs.Capturing.{IsNoPath, turns_left}
use Rattle.disk.proofs.Going.{GoesOn}
use Rattle.disk.proofs.taking.Taken.follow_all.Given as goal

-- the wanted paths so far were followed; none is left at the end
abbrev pub invariant-links : goal.invariant-links
invariant-links g l =
    ((asked : List (List ℕ)) → GoesOn (g.D.Disk.holds l.fn.disk) asked l.fn.self.found l.fn.self.wanted.items l.self.found l.self.wanted.items (Ok tt) IsNoPath)
    × (l.more ≡ false → l.self.wanted.items ≡ [])
    × (g.D.Disk.holds l.disk ≡ g.D.Disk.holds l.fn.disk)
    × (g.D.Disk.failures l.disk ≡ g.D.Disk.failures l.fn.disk)

abbrev pub decreases-links : goal.decreases-links
decreases-links g l = cond l.more (suc (turns_left l.self)) 0
