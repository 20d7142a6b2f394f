use Rattle.std.specs.Vec.Iter.{into_iter_items}
use Rattle.shared_admin.proofs.Driven.{Leads}
use Rattle.shared_admin.proofs.driving.drive_on.Given as goal

-- the remaining events have the same final result as all events
abbrev pub invariant-loop-event : goal.invariant-loop-event
invariant-loop-event g l = Leads g.O.Operation.asks g.O.Operation.meaning l.fn.history l.fn.events.items l.history l.slots.items (into_iter_items l.event-iterator) l.replies.items
