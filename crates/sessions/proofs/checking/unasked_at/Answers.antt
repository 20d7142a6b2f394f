use Rattle.std.proofs.Common.{◌+◌, true, false, sym, subst}
use Rattle.sessions.proofs.Feeds.{HasAsked, passed, asked_one, asked_off, more_told}
use Rattle.sessions.proofs.Places.{by_text}
use Rattle.sessions.proofs.checking.unasked_at.Goals.{then-has_text+else-not-asks_at, else-has_text}
use Rattle.sessions.proofs.checking.unasked_at.Goals as goal

pub returns-then-not-asks_at-clause-some : goal.returns-then-not-asks_at-clause-some
returns-then-not-asks_at-clause-some g c =
    let here = by_text c.text.result.now c.args.operator.now c.ask-item.result.operator c.has_text.result true c.text.ensures c.has_text.ensures c.if-has_text.true in
    asked_off c.args.operator.now c.args.entries.now c.args.asks.now c.loop-ask.place c.loop-ask.ask-index c.ask-item.result c.ask-item.is c.loop-ask-test.true c.loop-ask.invariant here (c.asks_at.ensures.no c.if-not-asks_at.true)

pub loop-ask-preserved : goal.loop-ask-preserved
loop-ask-preserved g c = elim c.if-has_text.branch [
  | then-has_text+else-not-asks_at w ↦ (
      let here = by_text c.text.result.now c.args.operator.now c.ask-item.result.operator c.has_text.result true c.text.ensures c.has_text.ensures w.if-has_text.true in
      let found = w.asks_at.ensures.yes w.if-not-asks_at.false in
      subst (λ place. HasAsked c.args.operator.now c.args.entries.now c.args.asks.now place (c.loop-ask.ask-index + 1)) (sym w.place-is)
      (asked_one c.args.operator.now c.args.entries.now c.args.asks.now c.loop-ask.place c.loop-ask.ask-index c.ask-item.result c.ask-item.is c.loop-ask-test.true c.loop-ask.invariant here found.0 found.1 found.2))
  | else-has_text w ↦ (
      let away = by_text c.text.result.now c.args.operator.now c.ask-item.result.operator c.has_text.result false c.text.ensures c.has_text.ensures w.if-has_text.false in
      subst (λ place. HasAsked c.args.operator.now c.args.entries.now c.args.asks.now place (c.loop-ask.ask-index + 1)) (sym w.place-is)
      (passed c.args.operator.now c.args.entries.now c.args.asks.now c.loop-ask.place c.loop-ask.ask-index c.ask-item.result c.ask-item.is c.loop-ask-test.true c.loop-ask.invariant away))
]

pub returns-then-place-entries-clause-some : goal.returns-then-place-entries-clause-some
returns-then-place-entries-clause-some g c =
    more_told c.args.operator.now c.args.entries.now c.args.asks.now c.loop-ask.place c.loop-ask.ask-index c.loop-ask-test.false c.loop-ask.invariant c.if-place-entries.true
