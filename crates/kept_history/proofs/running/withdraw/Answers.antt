use Rattle.std.proofs.Common.{zero, map as list_map, ◌∙◌, arith}
use Rattle.disk.specs.Events.{Withdraw, Make, way_back}
use Rattle.kept_history.specs.Runs.{ending}
use Rattle.kept_history.proofs.Fronts.{stops_first, stops_later, stops_back}
use Rattle.kept_history.proofs.Parts.{none_left}
use Rattle.kept_history.proofs.running.withdraw.Goals as goal

pub returns-in-Err-end_withdrawal-clause-left : goal.returns-in-Err-end_withdrawal-clause-left
returns-in-Err-end_withdrawal-clause-left g c =
    (zero, omega arith, λ old made. none_left old _ c.args.steps.now (c.in-Err-end_withdrawal.ensures.kept ∙ c.in-Ok.ensures.back old made))

pub returns-in-Err-clause-left : goal.returns-in-Err-clause-left
returns-in-Err-clause-left g c = (c.in-Err.left.made, c.in-Err.ensures.back.1, λ old made. (c.in-Err.ensures.back.2 old made).0)

pub returns-in-Err-end_withdrawal-clause-done : goal.returns-in-Err-end_withdrawal-clause-done
returns-in-Err-end_withdrawal-clause-done g c =
    stops_later _ _ _ (list_map Make (way_back c.args.steps.now)) (ending Withdraw c.args.steps.now) c.in-Ok.ensures.done c.in-Err-end_withdrawal.ensures.done

pub returns-in-Err-clause-done : goal.returns-in-Err-clause-done
returns-in-Err-clause-done g c =
    stops_first _ _ (list_map Make (way_back c.args.steps.now)) (ending Withdraw c.args.steps.now)
    (stops_back _ _ c.in-Err.left.made c.args.steps.now c.in-Err.ensures.some_done)
