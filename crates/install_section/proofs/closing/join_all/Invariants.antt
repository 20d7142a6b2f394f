use Rattle.std.proofs.Common.{◌≡◌, drop}
use Rattle.install_section.specs.Closure.{all_joined}
use Rattle.install_section.proofs.closing.join_all.Given as goal

abbrev pub invariant-loop-name : goal.invariant-loop-name
invariant-loop-name l = all_joined (drop l.name-index l.given) l.units ≡ all_joined l.given l.fn.units
