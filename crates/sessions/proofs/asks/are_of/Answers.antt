use Rattle.std.proofs.Common.{◌≡◌, true, sym, ◌∙◌}
use Rattle.shared_admin.specs.Sharing.{is_among}
use Rattle.sessions.specs.declared.asks.Ask.{Ask}
use Rattle.sessions.proofs.Firsts.{one_more, all_are}
use Rattle.sessions.proofs.asks.are_of.Goals as goal

pub loop-ask-preserved : goal.loop-ask-preserved
loop-ask-preserved g c =
    one_more (λ (ask : Ask g.row.O.Denot). is_among c.args.operators.now ask.operator ≡ true) c.args.asks.now c.loop-ask.ask-index c.ask-item.result c.ask-item.is c.loop-ask-test.true c.loop-ask.invariant
    (sym c.is_among.ensures ∙ c.if-not-is_among.false)

pub returns-clause-yes : goal.returns-clause-yes
returns-clause-yes g c is_true =
    all_are (λ (ask : Ask g.row.O.Denot). is_among c.args.operators.now ask.operator ≡ true) c.args.asks.now c.loop-ask.ask-index c.loop-ask-test.false c.loop-ask.invariant
