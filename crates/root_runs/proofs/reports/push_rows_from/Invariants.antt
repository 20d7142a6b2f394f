use Rattle.std.proofs.Common.{◌≡◌, ◌++◌, ◌+◌, drop}
use Rattle.unit_script.specs.Texts.{rows_text}
use Rattle.root_runs.proofs.reports.push_rows_from.Given as goal

-- the text so far, and that of what is left
abbrev pub invariant-loop-row : goal.invariant-loop-row
invariant-loop-row l = (l.next ≡ l.number + l.row-index) × (l.out.items ++ rows_text l.all l.next (drop l.row-index l.rows) ≡ l.fn.out.items ++ rows_text l.all l.number l.rows)
