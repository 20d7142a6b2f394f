use Rattle.std.proofs.lemmas.Result.{IfOk-weaker}
use Rattle.transaction.proofs.Ends.{comes_to}
use Rattle.install_commands.specs.Preset.{preset_meaning}
use Rattle.install_commands.proofs.InTurn.{preset_run, preset_means}
use Rattle.install_commands.proofs.preset.PresetOperation.run.Goals as goal

pub returns-clause-outcome : goal.returns-clause-outcome
returns-clause-outcome c =
    let preset = c.args.self.now in
    let t = c.args.tree.now in
    IfOk-weaker c.outcome.result _ _
    (comes_to (preset_run preset t) (preset_meaning preset) t (preset_means preset t) c.new-txn.result c.carry_out-done.new.txn c.carry_out-done.result c.new-txn.ensures c.carry_out-done.ensures)
    c.outcome.ensures.outcome
