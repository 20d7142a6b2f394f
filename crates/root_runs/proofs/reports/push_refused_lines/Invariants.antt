use Rattle.std.proofs.Common.{◌≡◌, ◌++◌, drop}
use Rattle.root_runs.specs.Reports.{refused_lines}
use Rattle.root_runs.proofs.reports.push_refused_lines.Given as goal

-- the text so far, and that of what is left
abbrev pub invariant-loop-row : goal.invariant-loop-row
invariant-loop-row l = l.out.items ++ refused_lines l.left (drop l.row-index l.rows) ≡ l.fn.out.items ++ refused_lines l.numbers l.rows
