use Rattle.std.proofs.Common.{◌≡◌, ◌∙◌, ◌+◌, ◌++◌, ◌∷◌, drop, ap, sym, arith}
use Rattle.std.proofs.lemmas.List.{drop_more}
use Rattle.kept_log.specs.Filters.{met_after}
use Rattle.kept_log.specs.Runs.{run_after}
use Rattle.kept_log.proofs.Choices.{one_more}
use Rattle.kept_log.proofs.selection.met.Goals as goal

pub loop-row-preserved : goal.loop-row-preserved
loop-row-preserved c =
    let i = c.loop-row.row-index in
    let rows = c.args.rows.now in
    let runs = c.args.runs.now in
    let place = c.loop-row.place in
    let at = c.loop-row.invariant.next in
    let zero_more : place.row + 0 ≡ place.row = omega arith in
    let none_more : i + 0 ≡ i = omega arith in
    let number_is : c.loop-row.number ≡ i = c.loop-row.invariant.number in
    let here : run_after (drop place.run runs) place.row ≡ run_after runs i = sym (ap (run_after (drop place.run runs)) zero_more) ∙ at 0 ∙ ap (run_after runs) none_more in
    let rest = met_after c.args.filter.now rows runs (i + 1) (drop (i + 1) rows) in
    let next_number : c.loop-row.number + 1 ≡ i + 1 = ap (λ n. n + 1) number_is in
    record {
      met = c.in_ok-push_if_met.ensures rest
          ∙ ap (λ xs. c.loop-row.numbers.items ++ xs) (one_more c.args.filter.now rows runs i c.row-item.result (drop (i + 1) rows) _ (c.loop-row.number + 1) (c.next_run-run.ensures.run ∙ here) next_number)
          ∙ ap (λ xs. c.loop-row.numbers.items ++ met_after c.args.filter.now rows runs i xs) (ap (λ row. row ∷ drop (i + 1) rows) c.row-item.is ∙ sym (drop_more rows i c.row-item.result c.loop-row-test.true))
          ∙ c.loop-row.invariant.met;
      next = λ k. (let shifted : i + (k + 1) ≡ i + 1 + k = omega arith in c.next_run-run.ensures.next k ∙ at (k + 1) ∙ ap (run_after runs) shifted);
      number = next_number;
    }
