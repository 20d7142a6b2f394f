use Rattle.std.proofs.Common.{◌≡◌, true, All}
use Rattle.std.specs.FinMap as map
use Rattle.unit_paths.specs.Slots.{is_slot}
use Rattle.install_commands.specs.Enable.{with_links}
use Rattle.install_commands.proofs.enable.to_stand.Given as goal

abbrev pub invariant-loop-path : goal.invariant-loop-path
invariant-loop-path l = (with_links l.wanted l.path-iterator ≡ with_links map.empty l.initial.path-iterator) × All (λ link. is_slot link.0 ≡ true) l.path-iterator
