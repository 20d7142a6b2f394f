use Rattle.std.proofs.Common.{◌≡◌, ◌++◌, drop, map}
use Rattle.root_runs.specs.Script.{row_call}
use Rattle.root_runs.proofs.script.row_calls.Given as goal

-- what is there so far, and what is left
abbrev pub invariant-loop-row : goal.invariant-loop-row
invariant-loop-row l = l.calls.items ++ map (row_call l.verb) (drop l.row-index l.rows) ≡ map (row_call l.verb) l.rows
