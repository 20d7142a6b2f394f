-- The rows of a redo that is appended.
use Rattle.std.proofs.Common.{◌≡◌, ◌∷◌, ◌++◌, zero, suc, List, [], map as list_map, Some, None, sym, ap, ◌∙◌}
use Rattle.link_tree.specs.Trees.{after_changes}
use Rattle.history.specs.declared.row.Request.TheVariants.{Redo}
use Rattle.history.specs.declared.row.Row.{Row}
use Rattle.history.specs.declared.row.RowReply.TheVariants.{Redid}
use Rattle.history.specs.Rows.{row_of_redo, mark, rows_redone}
use Rattle.history.proofs.Moments.{put_back, remembers}
use Rattle.history.proofs.Replayed.{replay-push}
use Rattle.history.proofs.Restored.{free_redo}
use Rattle.unit_script.specs.declared.action.Action.{Action}
use Rattle.unit_script.specs.declared.call.Call.{Call}
use Rattle.unit_script.specs.ActionLaws.{action_laws}
use Rattle.unit_script.specs.Actions.{asks, meaning}
use Rattle.unit_script.specs.Machine.{asked, rows_of, replay}
use Rattle.unit_script.proofs.Histories.{rows_of-push}
use Rattle.kept_rows.specs.Laws.{RedosAreAppended}

some_is : {A : Type 0} {x y : A} → Some x ≡ Some y → x ≡ y
some_is h = cc

pub redos_are_appended : RedosAreAppended
redos_are_appended first calls operator zero row here free = cc
redos_are_appended first calls operator (suc k) row here free =
    let rows : List (Row Action) = rows_of first calls in
    let call : Call = record { operator = operator; request = Redo (suc k) } in
    let last : Row Action = row_of_redo operator (suc k) (Redid (suc k)) in
    let found = free_redo asks rows k free in
    let same : found.0 ≡ row = some_is (sym found.1.here ∙ here) in
    let back = put_back action_laws first rows k found.0 found.1 (remembers action_laws first (list_map asked calls)) in
    let made : rows_of first (calls ++ call ∷ []) ≡ mark rows k None ++ last ∷ [] = rows_of-push first calls call ∙ ap (rows_redone operator rows (suc k)) free in (
      made,
      ap (replay first) made ∙ replay-push asks meaning first (mark rows k None) last ∙ back.1 ∙ ap (λ (r : Row Action). after_changes r.changes (replay first rows)) same,
    )
