use Rattle.std.proofs.Common.{◌≡◌, true, All}
use Rattle.std.specs.FinMap as map
use Rattle.unit_paths.specs.Slots.{is_slot}
use Rattle.transaction.proofs.Cleared.{with_none}
use Rattle.transaction.proofs.wanted.WantedLinks.cleared.Given as goal

abbrev pub invariant-loop-path : goal.invariant-loop-path
invariant-loop-path l = (with_none l.wanted l.path-iterator ≡ with_none map.empty l.initial.path-iterator) × All (λ x. is_slot x.0 ≡ true) l.path-iterator
