use Rattle.std.proofs.lemmas.Result.{IfOk-weaker}
use Rattle.transaction.specs.Runs.{doing_both}
use Rattle.transaction.proofs.Ends.{comes_to}
use Rattle.install_commands.specs.Reenable.{reenable_disables, reenable_enables, reenable_meaning}
use Rattle.install_commands.proofs.InTurn.{both_mean}
use Rattle.install_commands.proofs.reenable.ReenableOperation.run.Goals as goal

pub returns-clause-outcome : goal.returns-clause-outcome
returns-clause-outcome c =
    let reenable = c.args.self.now in
    let disables = reenable_disables reenable in
    let enables = reenable_enables reenable in
    let t = c.args.tree.now in
    IfOk-weaker c.outcome.result _ _
    (comes_to (doing_both disables enables) (reenable_meaning reenable) t (both_mean disables enables t) c.new-txn.result c.carry_out-done.new.txn c.carry_out-done.result c.new-txn.ensures c.carry_out-done.ensures)
    c.outcome.ensures.outcome
