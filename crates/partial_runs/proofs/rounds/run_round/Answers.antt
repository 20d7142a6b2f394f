use Rattle.std.proofs.Common.{◌≤◌, List, Ok, arith, subst, sym}
use Rattle.std.specs.FinMap as map
use Rattle.std.specs.Prelude.{IfErr, IfSome}
use Rattle.link_tree.proofs.Stops.{returned}
use Rattle.history.specs.declared.row.Row.{Row}
use Rattle.disk.specs.Partials.{IsPartial, IsReasonAgainstPart, found_in}
use Rattle.disk.proofs.Going.{if_all}
use Rattle.partial_trees.specs.Parts.{AgreeOnRows}
use Rattle.partial_runs.specs.Captures.{Captures}
use Rattle.partial_runs.proofs.Captured.{counted_error}
use Rattle.partial_runs.proofs.OnAll.{ends_on_all}
use Rattle.partial_runs.proofs.rounds.run_round.Goals as goal

pub returns-in_err-tree-clause-reason : goal.returns-in_err-tree-clause-reason
returns-in_err-tree-clause-reason g c =
    let tree = g.D.Disk.holds c.args.disk.now in
    let e = c.in_err-tree.field-0.0 in
    subst (λ r. IfErr r (λ e. IfSome tree (λ t. IsPartial t c.args.partial.now → IsReasonAgainstPart t e))) (sym (returned c.from_residual.result e c.from_residual.ensures))
    (if_all tree (λ t. IsPartial t c.args.partial.now → IsReasonAgainstPart t e) c.in_err-tree.ensures.reason)

pub returns-in_err-capture_more-clause-reason : goal.returns-in_err-capture_more-clause-reason
returns-in_err-capture_more-clause-reason g c =
    let tree = g.D.Disk.holds c.args.disk.now in
    let e = c.in_err-capture_more.field-0.0 in
    subst (λ r. IfErr r (λ e. IfSome tree (λ t. IsPartial t c.args.partial.now → IsReasonAgainstPart t e))) (sym (returned c.from_residual-in_err-capture_more.result e c.from_residual-in_err-capture_more.ensures))
    c.in_err-capture_more.ensures.captures

pub returns-in_err-capture_more-clause-counted : goal.returns-in_err-capture_more-clause-counted
returns-in_err-capture_more-clause-counted g c =
    let e = c.in_err-capture_more.field-0.0 in
    let old = g.D.Disk.failures c.args.disk.now in
    let new = g.D.Disk.failures c.capture_more.new.disk in
    let result = c.from_residual-in_err-capture_more.result in
    counted_error old new e result (returned result e c.from_residual-in_err-capture_more.ensures) c.in_err-capture_more.ensures.counted

pub returns-clause-same : goal.returns-clause-same
returns-clause-same g c =
    let tree = g.D.Disk.holds c.args.disk.now in
    let old = c.args.partial.now in
    let new = c.capture_more.new.partial in
    let history = c.in_ok-history.history in
    let few : map.len (found_in new) ≤ map.len (found_in old) = omega (arith, c.if-before-len.false, c.len.ensures.len, c.len-before.ensures.len) in
    ends_on_all g.met.O.Operation.laws tree old new c.in_ok-tree.tree history.first c.args.calls.now history.rows
    (subst (λ (rows : List (Row g.row.O.Denot)). Captures tree old new (Ok tt) (λ t found. AgreeOnRows rows found t.entries)) c.rows.ensures.rows c.in_ok-capture_more.ensures.captures)
    few c.in_ok-tree.ensures.tree c.in_ok-history.ensures.first c.in_ok-history.ensures.rows
