use Rattle.std.proofs.Common.{◌≡◌}
use Rattle.kept_roots.proofs.kept_real_disk.KeptRealDisk.remove_emptied.Given as goal

-- nothing has failed
abbrev pub invariant-loop-i : goal.invariant-loop-i
invariant-loop-i l = l.self.failures ≡ l.fn.self.failures
