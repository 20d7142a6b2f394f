use Rattle.std.proofs.Common.{length, sym, ap, ◌∙◌, rules, tests}
use Rattle.std.proofs.lemmas.List.{map-id}
use Rattle.std.proofs.lemmas.Iterator.Adapters.{YieldsList-from_vec}
use Rattle.std.proofs.lemmas.Iterator.Consumers.{YieldsList-so_far}
use Rattle.kept_rows.specs.Others.{rows_with}
use Rattle.kept_runs.proofs.MadeCalls.{one_made}
use Rattle.kept_runs.proofs.making.make_each.Goals as goal

pub loop-call-preserved : goal.loop-call-preserved
loop-call-preserved c =
    let ok = c.in_ok-make_call.ensures in (
      one_made c.args.history.now.first c.args.history.now.rows c.loop-call.yielded c.in-Some.call c.loop-call.history.first _ c.loop-call.history.rows _ c.loop-call.invariant.0 ok.first ok.rows,
      ok.limit ∙ c.loop-call.invariant.1,
    )

pub returns-in_err-make_call-clause-first : goal.returns-in_err-make_call-clause-first
returns-in_err-make_call-clause-first c = c.in_err-make_call.ensures.first ∙ c.loop-call.invariant.0.0

pub returns-in_err-make_call-clause-made : goal.returns-in_err-make_call-clause-made
returns-in_err-make_call-clause-made c =
    let so_far = YieldsList-so_far (YieldsList-from_vec {s = c.into_iter-call-iterator.result} c.args.calls.items (search (rules, tests)) (search (rules, tests)))
    c.loop-call.yielded _ c.loop-call.yielded_by in (
      length c.loop-call.yielded,
      ap (λ history. history.rows) c.in_err-make_call.ensures.err
          ∙ c.loop-call.invariant.0.1
          ∙ ap (rows_with c.args.history.now.first c.args.history.now.rows) (sym (map-id c.loop-call.yielded) ∙ so_far),
    )
