use Rattle.std.proofs.Common.{◌≡◌, replicate}
use Rattle.shared_admin.specs.Events.{nothing_kept}
use Rattle.shared_admin.proofs.driving.empty_slots.Given as goal

abbrev pub invariant-loop : goal.invariant-loop
invariant-loop g l = l.slots.items ≡ replicate l.counter nothing_kept
