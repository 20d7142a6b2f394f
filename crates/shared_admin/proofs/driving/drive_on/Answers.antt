use Rattle.std.proofs.Common.{List, refl, sym, subst, ◌∙◌}
use Rattle.std.specs.Vec.Iter.{into_iter_items}
use Rattle.std.proofs.lemmas.List.{nil_from_length}
use Rattle.shared_admin.specs.declared.event.Event.{Event}
use Rattle.shared_admin.specs.declared.event.EventReply.{EventReply}
use Rattle.shared_admin.proofs.Driven.{Leads, begins, one_more, all_done, next_allowed}
use Rattle.shared_admin.proofs.driving.drive_on.Goals as goal

pub loop-event-init : goal.loop-event-init
loop-event-init g c =
    begins c.args.history.now c.args.history.now c.args.events.items (into_iter_items c.into_iter-event-iterator.result) c.in_ok-slots.slots.items c.new-replies.result.items
    refl c.in_ok-slots.ensures c.into_iter-event-iterator.ensures.into_iter_gives.0 c.new-replies.ensures.items c.requires

pub happen-requires-clause-sixteen : goal.happen-requires-clause-sixteen
happen-requires-clause-sixteen g c = c.loop-event.invariant.sixteen

pub happen-requires-clause-slot : goal.happen-requires-clause-slot
happen-requires-clause-slot g c = next_allowed c.in-Some.event (into_iter_items c.next.new.self) (into_iter_items c.loop-event.event-iterator) c.in-Some.ensures.steps.0 c.loop-event.invariant.allowed

pub loop-event-preserved : goal.loop-event-preserved
loop-event-preserved g c =
    let asks = g.O.Operation.asks in
    let meaning = g.O.Operation.meaning in
    let start = c.args.history.now in
    let all = c.args.events.items in
    let before = subst (λ (left : List (Event g.row.O.Denot)). Leads asks meaning start all c.loop-event.history c.loop-event.slots.items left c.loop-event.replies.items) c.in-Some.ensures.steps.0 c.loop-event.invariant in
    subst (λ (done : List EventReply). Leads asks meaning start all c.happen.new.history c.happen.new.slots.items (into_iter_items c.next.new.self) done) (sym c.in_ok-push.ensures.items)
    (one_more start c.loop-event.history c.happen.new.history all (into_iter_items c.next.new.self) c.loop-event.slots.items c.happen.new.slots.items c.in-Some.event c.loop-event.replies.items c.in_ok-reply.reply
    c.in_ok-reply.ensures.happens c.happen.ensures.sixteen before)

pub returns : goal.returns
returns g c =
    let asks = g.O.Operation.asks in
    let meaning = g.O.Operation.meaning in
    let start = c.args.history.now in
    let all = c.args.events.items in
    let left = c.loop-event.event-iterator in
    let none = nil_from_length (into_iter_items left) (sym left.rest.ok.0 ∙ c.in-None.ensures.steps.0) in
    all_done start c.loop-event.history all c.loop-event.slots.items c.loop-event.replies.items
    (subst (λ (rest : List (Event g.row.O.Denot)). Leads asks meaning start all c.loop-event.history c.loop-event.slots.items rest c.loop-event.replies.items) none c.loop-event.invariant)
