use Rattle.std.proofs.Common.{ap, ◌+◌, ◌∙◌, ℕ, [], List, length, arith, take}
use Rattle.std.proofs.lemmas.List.{take_all}
use Rattle.link_tree.specs.Trees.{Entries}
use Rattle.history.specs.Rows.{Call, rows_after, run}
use Rattle.partial_runs.proofs.Turns.{one_longer}
use Rattle.partial_runs.proofs.OnAll.{one_row, length-rows_after}
use Rattle.partial_runs.proofs.calls.make_calls.Goals as goal

pub make_call-requires : goal.make_call-requires
make_call-requires g c = omega (arith, c.loop-operator.invariant.1, c.loop-operator.invariant.3, c.loop-operator-test.true, c.requires.few)

pub loop-operator-preserved : goal.loop-operator-preserved
loop-operator-preserved g c =
    let asks = g.O.Operation.asks in
    let meaning = g.O.Operation.meaning in
    let ok = c.in_ok-make_call.ensures in
    let inv = c.loop-operator.invariant in
    let i = c.loop-operator.operator-index in
    let calls = c.args.calls.now in
    let call = c.loop-operator-item.result in
    let rows = c.loop-operator.history.rows in (
      ok.first ∙ inv.0,
      ok.limit ∙ inv.1,
      one_row asks meaning c.args.tree (take i calls) (take (i + 1) calls) call rows c.make_call.new.history.rows (one_longer calls i call c.loop-operator-item.is c.loop-operator-test.true) inv.2
          (ok.rows ∙ ap (λ (t : Entries). rows_after asks meaning t rows call) inv.0),
      ap length ok.rows ∙ length-rows_after asks meaning c.loop-operator.history.first rows call ∙ ap (λ (n : ℕ). n + 1) inv.3,
    )

pub returns-clause-rows : goal.returns-clause-rows
returns-clause-rows g c =
    c.loop-operator.invariant.2 ∙ ap (λ (calls : List (Call g.row.O.Denot)). run g.O.Operation.asks g.O.Operation.meaning c.args.tree [] calls) (take_all c.loop-operator.operator-index c.args.calls.now c.loop-operator-test.false)
