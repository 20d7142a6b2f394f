use Rattle.std.proofs.Common.{◌∙◌, ap, sym, [], ◌∷◌, List, length, length-append, arith}
use Rattle.link_tree.specs.Trees.{Entries}
use Rattle.history.specs.declared.row.Row.{Row}
use Rattle.history.specs.Rows.{rows_after}
use Rattle.unit_script.specs.declared.action.Action.{Action}
use Rattle.unit_script.specs.Actions.{asks, meaning}
use Rattle.unit_script.specs.Machine.{asked}
use Rattle.unit_script.proofs.Histories.{rows_of-push, length-rows_after}
use Rattle.unit_script.proofs.running.history_of.Goals as goal

pub loop-call-preserved : goal.loop-call-preserved
loop-call-preserved c =
    let ok = c.in_ok-make.ensures in
    let inv = c.loop-call.invariant in
    let more = length-append c.loop-call.yielded (c.in-Some.call ∷ []) in
    let rows = length-rows_after c.loop-call.history.first c.loop-call.history.rows (asked c.in-Some.call) in (
      ok.first ∙ inv.0,
      ok.limit ∙ inv.1,
      ok.rows ∙ ap (λ (t : Entries). rows_after asks meaning t c.loop-call.history.rows (asked c.in-Some.call)) inv.0
          ∙ ap (λ (rows : List (Row Action)). rows_after asks meaning c.args.tree rows (asked c.in-Some.call)) inv.2 ∙ sym (rows_of-push c.args.tree c.loop-call.yielded c.in-Some.call),
      ap length ok.rows ∙ rows ∙ omega (arith, inv.3, more),
    )
