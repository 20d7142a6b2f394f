use Rattle.std.proofs.Common.{◌++◌, sym, ap, ◌∙◌}
use Rattle.std.specs.Vec.Iter.{into_iter_items}
use Rattle.std.proofs.lemmas.List.{nil_from_length}
use Rattle.shared_admin.specs.declared.log.SessionLog.{SessionLog}
use Rattle.sessions.specs.Sessions.{Opened, requests_of}
use Rattle.sessions.proofs.Feeds.{served_one, all_served}
use Rattle.sessions.proofs.run.serve_all.Goals as goal

pub loop-request-init : goal.loop-request-init
loop-request-init g c = (
  ap (λ (session : Opened g.row.O.Denot). session.operator) c.open-session.ensures,
  ap (λ (session : Opened g.row.O.Denot). requests_of session.entries ++ into_iter_items c.into_iter-request-iterator.result) c.open-session.ensures
      ∙ c.into_iter-request-iterator.ensures.into_iter_gives.0
      ∙ c.into_vec-request-items.ensures,
)

pub loop-request-preserved : goal.loop-request-preserved
loop-request-preserved g c = (
  ap (λ (session : Opened g.row.O.Denot). session.operator) c.in_default.ensures.served.added ∙ c.loop-request.invariant.0,
  served_one c.loop-request.session c.call.new.self c.in-Some.request (into_iter_items c.loop-request.request-iterator) (into_iter_items c.next.new.self) c.args.requests c.in_default.ensures.served c.in-Some.ensures.steps.0 c.loop-request.invariant.1,
)

pub returns : goal.returns
returns g c =
    let left = c.loop-request.request-iterator in
    let none = nil_from_length (into_iter_items left) (sym left.rest.ok.0 ∙ c.in-None.ensures.steps.0) in (
      ap (λ (log : SessionLog g.row.O.Denot). log.operator) {y = record { operator = c.loop-request.session.operator; entries = c.loop-request.session.entries }} c.into_log.ensures ∙ c.loop-request.invariant.0,
      ap (λ (log : SessionLog g.row.O.Denot). requests_of log.entries) {y = record { operator = c.loop-request.session.operator; entries = c.loop-request.session.entries }} c.into_log.ensures ∙ all_served c.loop-request.session (into_iter_items left) c.args.requests none c.loop-request.invariant.1,
    )
