use Rattle.std.proofs.Common.{◌≡◌, ℕ, List, Ok, take}
use Rattle.disk.specs.Capturing.{AtSome, IsSlotIn}
use Rattle.disk.proofs.Going.{GoesOn}
use Rattle.disk.proofs.taking.Taken.take_directories.Given as goal

-- those before this one were taken
abbrev pub invariant-loop-directory : goal.invariant-loop-directory
invariant-loop-directory g l =
    ((asked : List (List ℕ)) → GoesOn (g.D.Disk.holds l.fn.disk) asked l.fn.self.found l.fn.self.wanted.items l.self.found l.self.wanted.items (Ok tt) (AtSome (take l.directory-index l.directories) IsSlotIn))
    × (g.D.Disk.holds l.disk ≡ g.D.Disk.holds l.fn.disk)
    × (g.D.Disk.failures l.disk ≡ g.D.Disk.failures l.fn.disk)
