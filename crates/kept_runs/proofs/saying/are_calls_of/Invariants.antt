use Rattle.unit_script.specs.Machine.{asked}
use Rattle.kept_runs.proofs.Alike.{FirstAlike}
use Rattle.kept_runs.specs.Texts.{requested}
use Rattle.kept_runs.proofs.saying.are_calls_of.Given as goal

-- the first i are calls of the rows
abbrev pub invariant-loop-i : goal.invariant-loop-i
invariant-loop-i l = FirstAlike requested asked l.rows l.calls l.i
