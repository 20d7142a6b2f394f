use Rattle.std.proofs.Common.{refl, sym, ap, subst, ◌∙◌}
use Rattle.sessions.specs.Sessions.{requests_of}
use Rattle.sessions.specs.Fed.{asked, IsAsked, DiffersFirstAt}
use Rattle.sessions.proofs.Feeds.{apart}
use Rattle.sessions.proofs.Firsts.{first_not, one_more, all_are}
use Rattle.sessions.proofs.checking.first_unasked.Goals as goal

pub returns-in-Some-clause-some : goal.returns-in-Some-clause-some
returns-in-Some-clause-some g c =
    let log = c.log-item.result in
    let wanted = asked log.operator c.args.asks.now in
    let differs : DiffersFirstAt c.in-Some.place (requests_of log.entries) wanted = subst (λ entries. DiffersFirstAt c.in-Some.place (requests_of entries) wanted) c.as_slice.ensures c.in-Some.ensures.some in (
      log,
      first_not (IsAsked c.args.asks.now) c.args.logs.now c.loop-log.log-index log c.log-item.is c.loop-log-test.true c.loop-log.invariant
          (λ (its : IsAsked c.args.asks.now log). apart c.in-Some.place (requests_of log.entries) wanted differs its),
      refl,
      differs,
    )

pub loop-log-preserved : goal.loop-log-preserved
loop-log-preserved g c =
    one_more (IsAsked c.args.asks.now) c.args.logs.now c.loop-log.log-index c.log-item.result c.log-item.is c.loop-log-test.true c.loop-log.invariant
    (sym (ap requests_of c.as_slice.ensures) ∙ c.in-None.ensures.none)

pub returns-clause-none : goal.returns-clause-none
returns-clause-none g c = all_are (IsAsked c.args.asks.now) c.args.logs.now c.loop-log.log-index c.loop-log-test.false c.loop-log.invariant
