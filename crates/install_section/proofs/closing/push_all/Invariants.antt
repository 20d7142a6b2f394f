use Rattle.std.proofs.Common.{◌≡◌, ◌++◌}
use Rattle.install_section.proofs.closing.push_all.Given as goal

abbrev pub invariant-loop-path : goal.invariant-loop-path
invariant-loop-path l = l.once ++ l.path-iterator ≡ l.fn.once ++ l.fn.seen.keys
