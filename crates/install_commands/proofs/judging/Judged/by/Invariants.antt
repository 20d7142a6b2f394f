use Rattle.std.proofs.Common.{◌≡◌, drop}
use Rattle.install_commands.specs.Preset.{judged_by, none_judged}
use Rattle.install_commands.proofs.judging.Judged.by.Given as goal

abbrev pub invariant-loop-unit : goal.invariant-loop-unit
invariant-loop-unit l = judged_by l.rules (drop l.unit-index l.units) l.judged ≡ judged_by l.rules l.fn.units none_judged
