use Rattle.std.proofs.Common.{◌≡◌, drop}
use Rattle.install_commands.specs.Disable.{but_at}
use Rattle.install_commands.proofs.disable.leave_all.Given as goal

abbrev pub invariant-loop-path : goal.invariant-loop-path
invariant-loop-path l = but_at l.wanted (drop l.path-index l.kept) ≡ but_at l.fn.wanted l.fn.kept
