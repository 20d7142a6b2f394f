use Rattle.std.proofs.Common.{◌≡◌, ◌++◌, ◌+◌, drop}
use Rattle.root_runs.specs.Reports.{unmade_rows}
use Rattle.root_runs.proofs.reports.push_unmade_from.Given as goal

-- the text so far, and that of what is left
abbrev pub invariant-loop-row : goal.invariant-loop-row
invariant-loop-row l = (l.next ≡ l.number + l.row-index) × (l.out.items ++ unmade_rows l.all l.next (drop l.row-index l.rows) ≡ l.fn.out.items ++ unmade_rows l.all l.number l.rows)
