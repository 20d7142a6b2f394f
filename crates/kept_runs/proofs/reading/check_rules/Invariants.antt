use Rattle.std.proofs.Common.{take}
use Rattle.kept_runs.specs.Readings.{AreOfRules}
use Rattle.kept_runs.proofs.reading.check_rules.Given as goal

-- the runs so far were made by the rules
abbrev pub invariant-loop-before : goal.invariant-loop-before
invariant-loop-before l = AreOfRules l.rules (take l.before l.runs)
