use Rattle.std.proofs.Common.{All}
use Rattle.shared_admin.specs.Events.{HasSlot}
use Rattle.admin_tests.proofs.events.events.Given as goal

abbrev pub invariant-loop-word : goal.invariant-loop-word
invariant-loop-word l = All (λ event. HasSlot event) l.events.items
