use Rattle.std.proofs.Common.{[], refl, subst}
use Rattle.history.specs.Logs.{Log}
use Rattle.shared_admin.specs.Events.{empty_slots, Plays}
use Rattle.shared_admin.proofs.Driven.{IsLegal, legal_events}
use Rattle.shared_admin.proofs.driving.drive.Goals as goal

pub returns-clause-driven : goal.returns-clause-driven
returns-clause-driven g c =
    subst (λ (log : Log g.row.O.Denot). Plays g.O.Operation.asks g.O.Operation.meaning log empty_slots c.args.events.items c.drive_on.new.history c.in_ok-replies.replies.items) c.in_ok-history.ensures c.in_ok-replies.ensures

pub returns-clause-first : goal.returns-clause-first
returns-clause-first g c =
    let asks = g.O.Operation.asks in
    let meaning = g.O.Operation.meaning in
    let start : Log g.row.O.Denot = record { first = c.args.tree; rows = []; limit = 1000000 } in
    let driven = subst (λ (log : Log g.row.O.Denot). Plays asks meaning log empty_slots c.args.events.items c.drive_on.new.history c.in_ok-replies.replies.items) c.in_ok-history.ensures c.in_ok-replies.ensures in
    let begun : IsLegal asks meaning c.args.tree start = record { first_is = refl; legal = refl } in
    (legal_events c.args.tree start c.drive_on.new.history empty_slots c.args.events.items c.in_ok-replies.replies.items begun driven).first_is

pub returns-clause-legal : goal.returns-clause-legal
returns-clause-legal g c =
    let asks = g.O.Operation.asks in
    let meaning = g.O.Operation.meaning in
    let start : Log g.row.O.Denot = record { first = c.args.tree; rows = []; limit = 1000000 } in
    let driven = subst (λ (log : Log g.row.O.Denot). Plays asks meaning log empty_slots c.args.events.items c.drive_on.new.history c.in_ok-replies.replies.items) c.in_ok-history.ensures c.in_ok-replies.ensures in
    let begun : IsLegal asks meaning c.args.tree start = record { first_is = refl; legal = refl } in
    (legal_events c.args.tree start c.drive_on.new.history empty_slots c.args.events.items c.in_ok-replies.replies.items begun driven).legal
