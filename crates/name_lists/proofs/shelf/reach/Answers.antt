use Rattle.std.proofs.Common.{◌≤◌, ◌+◌, [], length, ◌++◌, ap, ◌∙◌, arith, rules}
use Rattle.std.specs.Prelude.{slice_index_or}
use Rattle.std.proofs.lemmas.List.{take_all}
use Rattle.name_lists.proofs.Rows.{longer}
use Rattle.name_lists.proofs.shelf.reach.Goals as goal

pub returns-in_ok-resize-clause-same : goal.returns-in_ok-resize-clause-same
returns-in_ok-resize-clause-same c k =
    let old = c.args.buckets.now.items in
    let few : length old ≤ c.args.bucket + 1 = search (rules, arith) in
    let grown = c.in_ok-resize.ensures.items in
    ap (λ xs. slice_index_or xs k []) (grown.1 ∙ ap (λ xs. xs ++ grown.0) (take_all (c.args.bucket + 1) old few))
    ∙ longer old grown.0 c.in_ok-none.field-0 [] grown.2 c.in_ok-none.ensures k
