use Rattle.std.proofs.Common.{◌≡◌, drop}
use Rattle.install_commands.specs.Preset.{with_all_listed}
use Rattle.install_commands.proofs.judging.Judged.with_all_listed.Given as goal

abbrev pub invariant-loop-instance : goal.invariant-loop-instance
invariant-loop-instance l = with_all_listed l.template l.judged (drop l.instance-index l.instances) ≡ with_all_listed l.template l.fn.self l.fn.instances
