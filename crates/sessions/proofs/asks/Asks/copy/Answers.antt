use Rattle.std.proofs.Common.{◌∙◌}
use Rattle.std.proofs.lemmas.List.{take_all}
use Rattle.sessions.proofs.Feeds.{one_copied}
use Rattle.sessions.proofs.asks.Asks.copy.Goals as goal

pub loop-ask-preserved : goal.loop-ask-preserved
loop-ask-preserved g c =
    one_copied c.as_slice-ask-items.result.now c.loop-ask.ask-index c.ask-item.result c.in_ok-copy.field-0 c.loop-ask.copy c.push.new.self c.ask-item.is c.loop-ask-test.true c.in_ok-copy.ensures c.in_ok-push.ensures.ok c.loop-ask.invariant

pub returns : goal.returns
returns g c = c.loop-ask.invariant ∙ take_all c.loop-ask.ask-index c.as_slice-ask-items.result.now c.loop-ask-test.false ∙ c.as_slice-ask-items.ensures
