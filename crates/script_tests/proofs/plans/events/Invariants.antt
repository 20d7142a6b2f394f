use Rattle.std.proofs.Common.{All}
use Rattle.shared_admin.specs.Events.{HasSlot}
use Rattle.script_tests.proofs.plans.events.Given as goal

-- the slots of the events so far
abbrev pub invariant-loop-happening : goal.invariant-loop-happening
invariant-loop-happening l = All (λ event. HasSlot event) l.events.items
