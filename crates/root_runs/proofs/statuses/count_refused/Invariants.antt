use Rattle.std.proofs.Common.{◌≡◌, ◌+◌, ◌≤◌, drop}
use Rattle.std.specs.List.{count_by}
use Rattle.root_runs.specs.Statuses.{is_refused_row}
use Rattle.root_runs.proofs.statuses.count_refused.Given as goal

-- those that were counted, and those that are left
abbrev pub invariant-loop-row : goal.invariant-loop-row
invariant-loop-row l = (l.count ≤ l.row-index) × (l.count + count_by is_refused_row (drop l.row-index l.rows) ≡ count_by is_refused_row l.rows)
